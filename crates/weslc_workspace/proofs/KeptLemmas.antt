-- What is kept stays what it is while modules are edited that were not asked for.
use Rattle.std.proofs.Common.{◌≡◌, refl, sym, ap, subst, ◌∙◌, inl, inr, ⊎_elim, ℕ, zero, suc, List, [], ◌∷◌, ◌++◌, Bool, true, false, Option, Some, None, Ok, Err}
use Rattle.std.specs.Prelude.{map, slice_get, string_bytes, if◌then◌else◌, IfOk, IfErr, ◌⊎◌}
use Rattle.std.specs.List.{Contains}
use Rattle.std.specs.Option.{is_some}
use Rattle.std.specs.Str.{bytes_eq}
use Rattle.std.specs.HashSet.{HashSet, contains_text}
use Rattle.std.specs.declared.string.String.{String}
use Rattle.wgsl_base.proofs.Members.{same_bytes as same_text, from_contains, to_contains}
use Rattle.wgsl_path.specs.declared.path.ModulePath.{ModulePath}
use Rattle.wgsl_path.specs.Paths.{path_text}
use Rattle.wgsl_path.specs.Reading.{parts, path_of}
use Rattle.wesl_resolve.specs.Found.{unit_of}
use Rattle.core_syntax.specs.Tree.{UnitTree}
use Rattle.core_link_spec.specs.Modules.{Path}
use Rattle.core_link_spec.specs.Rounds.{Sources}
use Rattle.core_reach.specs.Alone.{only}
use Rattle.core_resolver.specs.Found as part
use Rattle.core_resolver.specs.Found.{at_text}
use Rattle.weslc_calls.specs.Options.{Options}
use Rattle.weslc_calls.specs.OfCore.{decided_by}
use Rattle.weslc_errors.proofs.Alone.{AreFoundToo}
use Rattle.weslc_compile.specs.Whole.{Answer, IsAnswerFor, AllInside, OfAsked}
use Rattle.weslc_compile.proofs.Too.{answers_too}
use Rattle.weslc_workspace.specs.Held.{text_at, IsSet}
use Rattle.weslc_workspace.specs.Found.{found_in}
use Rattle.weslc_workspace.specs.Fresh.{finds, texts_of}
use Rattle.weslc_workspace.specs.Noted.{AreNoted}
use Rattle.weslc_workspace.specs.Kept.{part_of, AreAlike, IsKept, IsAnswer}
use Rattle.weslc_workspace.specs.declared.modules.Modules.{Modules}
use Rattle.weslc_workspace.proofs.Reprinted.{printed_as_read}

-- ---- while edits are made

module _ {Y S : Type 0} (modules new : Modules) (root : ModulePath) (options : Options) (asked : HashSet (String Y) S) (answer : Answer) (k : IsKept modules root options asked answer) where
  -- texts stay
  pub kept_so : ((p : List ℕ) → text_at new p ≡ text_at modules p) → IsKept new root options asked answer
  kept_so same = record { before = k.before; chosen = k.chosen; texts = λ p in_asked. same p ∙ k.texts p in_asked; alike = k.alike; answers = k.answers }

  -- a text is set, or taken away, that was not asked for
  pub kept_when_set : (p : List ℕ) (text : Option (List ℕ)) → IsSet modules p text new → contains_text asked p ≡ false → IsKept new root options asked answer
  kept_when_set p text set none = record {
    before = k.before;
    chosen = k.chosen;
    texts = λ q in_asked. elsewhere q in_asked (bytes_eq p q) refl ∙ k.texts q in_asked;
    alike = k.alike;
    answers = k.answers;
  }
    where
      elsewhere : (q : List ℕ) → contains_text asked q ≡ true → (b : Bool) → bytes_eq p q ≡ b → text_at new q ≡ text_at modules q
      elsewhere q in_asked true same = let both : false ≡ true = sym none ∙ ap (contains_text asked) (same_text p q same) ∙ in_asked in absurd (cc)
      elsewhere q in_asked false other = set q ∙ ap (λ (b : Bool). if b then text else text_at modules q) other

  -- there was none to take away
  pub kept_when_none : (p : List ℕ) → IsSet modules p None new → is_some (text_at modules p) ≡ false → IsKept new root options asked answer
  kept_when_none p set none = kept_so (λ q. by q (bytes_eq p q) refl)
    where
      missing : (o : Option (List ℕ)) → is_some o ≡ false → o ≡ None
      missing None is = refl
      missing (Some text) is = absurd (cc)

      by : (q : List ℕ) (b : Bool) → bytes_eq p q ≡ b → text_at new q ≡ text_at modules q
      by q true same =
          set q ∙ ap (λ (b : Bool). if b then None else text_at modules q) same
          ∙ sym (ap (text_at modules) (sym (same_text p q same)) ∙ missing (text_at modules p) none)
      by q false other = set q ∙ ap (λ (b : Bool). if b then None else text_at modules q) other

  -- a flag could not be set
  pub kept_with : (others : Options) → AreAlike options others → IsKept modules root others asked answer
  kept_with others a = record {
    before = k.before;
    chosen = k.chosen;
    texts = k.texts;
    alike = record { flags = λ n. a.flags n ∙ k.alike.flags n; others = k.alike.others ∙ ap (λ (o : Options). record o { features = k.chosen.features }) a.others };
    answers = k.answers;
  }

-- ---- what was asked for is among what is kept

printed_at : (paths : List ModulePath) (i : ℕ) (p : List ℕ) → slice_get (map path_text paths) i ≡ Some p → (q : ModulePath) × (slice_get paths i ≡ Some q) × (path_text q ≡ p)
printed_at [] i p is = let wrong : None ≡ Some p = is in absurd (cc)
printed_at (q ∷ paths) zero p is = (q, refl, (let same : path_text q ≡ p = cc in same))
printed_at (q ∷ paths) (suc i) p is = printed_at paths i p is

pub noted_inside : {Y S : Type 0} (requests : List ModulePath) (asked : HashSet (String Y) S) → AreNoted requests asked → AllInside (contains_text asked) (Some requests)
noted_inside requests asked noted p there =
    let at = from_contains (map path_text requests) p there in
    let one = printed_at requests at.0 p at.1 in
    subst (λ (q : List ℕ). contains_text asked q ≡ true) one.2 (noted one.0 (to_contains requests at.0 one.0 one.1))

-- ---- what was just compiled

pub just_compiled : {Y S : Type 0} (modules new : Modules) (root : ModulePath) (options : Options) (requests : List ModulePath) (asked : HashSet (String Y) S) (answer kept : Answer)
    → AreNoted requests asked → ((p : List ℕ) → text_at new p ≡ text_at modules p) → kept ≡ answer
    → OfAsked (Some requests) (λ inside. IsAnswerFor (only inside (part_of modules options)) (at_text (texts_of modules)) root options answer)
    → IsKept new root options asked kept
just_compiled modules new root options requests asked answer kept noted same is alone = subst (IsKept new root options asked) (sym is) (record {
  before = modules;
  chosen = options;
  texts = λ p in_asked. same p;
  alike = record { flags = λ n. refl; others = refl };
  answers = alone (contains_text asked) (noted_inside requests asked noted);
})

-- ---- it is an answer of the modules as they are

module _ (before modules : Modules) (inside : List ℕ → Bool) (same : (p : List ℕ) → inside p ≡ true → text_at modules p ≡ text_at before p) where
  there : (p : List ℕ) (q : ModulePath) → inside p ≡ true → path_of (parts p) ≡ Ok q → text_at before (path_text q) ≡ text_at modules (path_text q)
  there p q in_asked is = let printed = printed_as_read p q is in sym (same (path_text q) (subst (λ (t : List ℕ). inside t ≡ true) (sym printed) in_asked))

  pub found_now : (options : Options) → AreFoundToo (only inside (part_of before options)) (part_of modules options)
  found_now options p a (in_asked, (q, is, found)) =
      (q, is, subst (λ (o : Option (List ℕ)). part.IsCoreAnswer (decided_by options.features (λ r b. found_in o b) q) a) (there p q in_asked is) found)

  pub texts_now : (options : Options) (p : Path) (u : UnitTree) (text : List ℕ) → only inside (part_of before options) p (unit_of u) → at_text (texts_of before) p text → at_text (texts_of modules) p text
  texts_now options p u text found (q, is, stands) = (q, is, subst (λ (o : Option (List ℕ)). o ≡ Some text) (there p q found.0 is) stands)

pub kept_answers : {Y S : Type 0} (modules : Modules) (root : ModulePath) (options : Options) (asked : HashSet (String Y) S) (answer : Answer) → IsKept modules root options asked answer → IsAnswer modules root options answer
kept_answers modules root options asked answer k = record {
  chosen = k.chosen;
  alike = k.alike;
  answers = answers_too (only (contains_text asked) (part_of k.before k.chosen)) (part_of modules k.chosen) (found_now k.before modules (contains_text asked) k.texts k.chosen)
      (at_text (texts_of k.before)) (at_text (texts_of modules)) (texts_now k.before modules (contains_text asked) k.texts k.chosen) root k.chosen answer k.answers;
}
