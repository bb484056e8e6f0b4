-- What a closing comes to.
use Rattle.std.proofs.Common.{◌≡◌, sym, ◌∙◌, subst, ℕ, inr, Bool, false, List, [], Option, Some}
use Rattle.std.specs.Prelude.{IfErr, OnOk, Result, Ok, Err}
use Rattle.std.specs.Result.{IsErrAnd}
use Rattle.std.specs.Option.{IsSome}
use Rattle.core_link_spec.specs.Occurrences.{Name}
use Rattle.core_link_spec.specs.Modules.{Path}
use Rattle.core_scopes.specs.declared.error.ImportError.{ImportError}
use Rattle.core_scopes.specs.declared.denote.Symbol.{Symbol as Place}
use Rattle.core_scopes.specs.Outcomes.{Loaded, loaded}
use Rattle.core_reach.specs.declared.linking.Linking.{Linking}
use Rattle.core_reach.specs.Reach.{ReachedAt, kept, onto, KeepsAll}
use Rattle.core_reach.specs.Following.{Stage, Handled, Moves, FollowedTo, AllFollowed}
use Rattle.core_reach.specs.Stages.{AskedNames, asks, stage}
use Rattle.core_reach.specs.Closing.{HeldNames, held_at, IsSound}
use Rattle.core_reach.specs.Missing.{FindsMissing}
use Rattle.core_reach.specs.Resolved.{IsKeyed}
use Rattle.core_reach.specs.Closed.{IsClosed, RefusesClosing}
use Rattle.core_reach.specs.Underway.{IsConsistent, IsUnderway, IsFinished}

-- what is reached is held, where the kept names are and all is followed
pub reached_held : (find : Loaded) (root : Path) (keep : List Name) (s : Stage) → KeepsAll find root keep s.held → AllFollowed find s
    → {m : Path} {place : ℕ} → ReachedAt find root keep m place → IsSome (s.held m place)
reached_held find root keep s keeps all (kept {x} {m} {place} c e) = let k = keeps x c in subst (Handled s) (sym k.2 ∙ e) k.3
reached_held find root keep s keeps all (onto {m} {n} {k} {place} {h} {d} {x} r is there c e) =
    subst (Handled s) e (all m k (reached_held find root keep s keeps all r) h d x is there c)

pub kept_stays : (find : Loaded) (root : Path) (keep : List Name) (old new : HeldNames) → ((m : Path) (k : ℕ) → IsSome (held_at old m k) → IsSome (held_at new m k))
    → KeepsAll find root keep (held_at old) → KeepsAll find root keep (held_at new)
kept_stays find root keep old new stays keeps x c = let k = keeps x c in (k.0, k.1, k.2, stays k.0 k.1 k.3)

module _ (l : Linking) where
  pub closed_whole : (held : HeldNames) (asked : AskedNames) (missing : Bool) (reached : List Place) → IsFinished l held asked missing reached
      → AllFollowed (loaded l.modules.now) (stage held (asks asked) false []) → IsClosed l.modules.now l.root.now l.keep.now held asked
  closed_whole held asked missing reached w all = record {
    sound = w.sound;
    named = w.in_order.named;
    kept = w.kept;
    followed = all;
    asked_at = w.in_order.asked_at;
    by_name = w.in_order.by_name;
    by_import = w.in_order.by_import;
  }

  pub refused_whole : (held : HeldNames) (asked : AskedNames) (missing : Bool) (reached : List Place) (o : Option ImportError) (e : ImportError) → o ≡ Some e
      → FindsMissing (loaded l.modules.now) (held_at held) o → IsFinished l held asked missing reached → RefusesClosing l.modules.now l.root.now l.keep.now held e
  refused_whole held asked missing reached o e is finds w =
      let found = subst (FindsMissing (loaded l.modules.now) (held_at held)) is finds in
      inr (
        found.0,
        found.1,
        record {
          sound = w.sound;
          whole = λ m place r. reached_held (loaded l.modules.now) l.root.now l.keep.now (stage held (asks asked) missing reached) w.kept w.followed r;
          kept = w.kept;
          first = found.2;
        },
      )

  pub underway_whole : (old new : HeldNames) (before after : AskedNames) (was is : Bool) (xs ys : List Place) → IsUnderway l old before was xs
      → (IsSound l old xs → IsSound l new ys)
      → Moves (stage old (asks before) was xs) (stage new (asks after) is ys)
      → (IsKeyed l.modules.now → IsSound l old xs → IsConsistent l old before → IsConsistent l new after)
      → (FollowedTo (loaded l.modules.now) (stage old (asks before) was xs) 0 → AllFollowed (loaded l.modules.now) (stage new (asks after) is ys))
      → IsFinished l new after is ys
  underway_whole old new before after was is xs ys u sound moves order followed = record {
    sound = (sound u.sound).0;
    in_order = order u.keyed u.sound u.in_order;
    kept = kept_stays (loaded l.modules.now) l.root.now l.keep.now old new moves.stays_held u.kept;
    followed = followed u.followed;
  }

-- an error that is passed on as it is
pub err_passed : {T E : Type 0} (P : E → Type 0) (e : E) (r : Result T E) → IsErrAnd r (λ f. f ≡ e) → P e → IfErr r P
err_passed P e (Ok x) is p = tt
err_passed P e (Err f) is p = subst P (sym is) p

pub on_any : {A E P : Type 0} (r : Result A E) → P → OnOk r P
on_any (Ok x) p = p
on_any (Err e) p = tt
