-- Following one more declaration.
use Rattle.std.proofs.Common.{◌≡◌, sym, ap, ◌∙◌, subst, ℕ, ◌+◌, ◌<◌, ◌≤◌, ◌⊎◌, inl, inr, ⊎_elim, [], ◌++◌, length, Some, append_assoc, length-append, arith}
use Rattle.std.specs.Prelude.{slice_get}
use Rattle.std.proofs.lemmas.Option.{slice_get_within}
use Rattle.std.proofs.lemmas.List.{append-nil}
use Rattle.core_link_spec.specs.Modules.{Path}
use Rattle.core_scopes.specs.Outcomes.{Outcome, symbol_at, unloaded, missing, private, free, Loaded, outcome}
use Rattle.core_reach.specs.Following.{Stage, Handled, IsFollowed, IsLater, Moves, FollowedTo, AllFollowed}
use Rattle.core_scopes.proofs.ScopeLemmas.{append_left}

pub handled_moves : (s t : Stage) (o : Outcome) → Moves s t → Handled s o → Handled t o
handled_moves s t (symbol_at m k) moves h = moves.stays_held m k h
handled_moves s t (unloaded u) moves h = moves.stays_asked u h
handled_moves s t (missing u) moves h = moves.stays_missing h
handled_moves s t (private u) moves h = moves.stays_missing h
handled_moves s t free moves h = tt

pub followed_moves : (find : Loaded) (s t : Stage) (m : Path) (k : ℕ) → Moves s t → IsFollowed find s m k → IsFollowed find t m k
followed_moves find s t m k moves f = λ h d x is there c. handled_moves s t (outcome find h x) moves (f h d x is there c)

pub no_move : (s : Stage) → Moves s s
no_move s = record {
  stays_held = λ m k h. h;
  stays_asked = λ t h. h;
  stays_missing = λ h. h;
  more = [];
  behind = sym (append-nil s.reached);
  tracked = λ m k h. inl h;
}

longer : (s t : Stage) → Moves s t → length s.reached ≤ length t.reached
longer s t moves = let e : length t.reached ≡ length s.reached + length moves.more = ap length moves.behind ∙ length-append s.reached moves.more in omega arith

later_moves : (at : ℕ) (s t : Stage) (m : Path) (k : ℕ) → Moves s t → IsLater at s.reached m k → IsLater at t.reached m k
later_moves at s t m k moves l = (l.0, l.1, ap (λ r. slice_get r l.0) moves.behind ∙ append_left s.reached moves.more l.0 (m, k) l.2)

pub two_moves : (s t u : Stage) → Moves s t → Moves t u → Moves s u
two_moves s t u one two = record {
  stays_held = λ m k h. two.stays_held m k (one.stays_held m k h);
  stays_asked = λ x h. two.stays_asked x (one.stays_asked x h);
  stays_missing = λ h. two.stays_missing (one.stays_missing h);
  more = one.more ++ two.more;
  behind = two.behind ∙ ap (λ r. r ++ two.more) one.behind ∙ append_assoc s.reached one.more two.more;
  tracked = λ m k h. ⊎_elim
      (λ before. ⊎_elim (λ old. inl old) (λ l. inr (later_moves (length s.reached) t u m k two l)) (one.tracked m k before))
      (λ l. let less = longer s t one in inr (l.0, (let more : length t.reached ≤ l.0 = l.1 in omega arith), l.2))
      (two.tracked m k h);
}

pub followed_more : (find : Loaded) (s t : Stage) (at : ℕ) (m : Path) (k : ℕ) → FollowedTo find s at → slice_get s.reached at ≡ Some (m, k) → Moves s t → IsFollowed find t m k
    → FollowedTo find t (at + 1)
followed_more find s t at m k before is moves now = λ n j h. ⊎_elim
    (λ old. ⊎_elim (λ f. inl (followed_moves find s t n j moves f)) (later n j) (before n j old))
    (λ l. let within : at < length s.reached = slice_get_within s.reached at (m, k) is in inr (l.0, (let more : length s.reached ≤ l.0 = l.1 in omega arith), l.2))
    (moves.tracked n j h)
  where
    here : (n : Path) (j i : ℕ) → i ≡ at → slice_get s.reached i ≡ Some (n, j) → IsFollowed find t n j
    here n j i e there =
        let both : Some (m, k) ≡ Some (n, j) = sym is ∙ ap (slice_get s.reached) (sym e) ∙ there in
        let same : (m, k) ≡ (n, j) = cc in
        subst (λ (p : Path × ℕ). IsFollowed find t p.0 p.1) same now

    either : (at i : ℕ) → at ≤ i → (i ≡ at) ⊎ (at + 1 ≤ i)
    either at i h = grind arith

    later : (n : Path) (j : ℕ) → IsLater at s.reached n j → IsFollowed find t n j ⊎ IsLater (at + 1) t.reached n j
    later n j l = ⊎_elim
        (λ e. inl (here n j l.0 e l.2))
        (λ more. inr (later_moves (at + 1) s t n j moves (l.0, more, l.2)))
        (either at l.0 l.1)

pub followed_all : (find : Loaded) (s : Stage) (at : ℕ) → length s.reached ≤ at → FollowedTo find s at → AllFollowed find s
followed_all find s at long to = λ m k h. ⊎_elim (λ f. f) (λ l. absurd (let within : l.0 < length s.reached = slice_get_within s.reached l.0 (m, k) l.2 in let more : at ≤ l.0 = l.1 in omega arith)) (to m k h)
