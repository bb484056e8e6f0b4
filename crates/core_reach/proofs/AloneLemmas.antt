-- Of the modules that were asked for alone.
use Rattle.std.proofs.Common.{◌≡◌, refl, true, ℕ, ◌<◌, inl, inr, ⊎_elim, Bool, List, [], ◌∷◌, ◌++◌, Result, Ok, Err}
use Rattle.std.specs.List.{Contains}
use Rattle.std.proofs.lemmas.List.Elements.{Contains-append_left, Contains-append_right}
use Rattle.wgsl_path.specs.declared.path.ModulePath.{ModulePath}
use Rattle.wgsl_path.specs.Paths.{path_text}
use Rattle.core_syntax.specs.declared.unit.TranslationUnit.{TranslationUnit}
use Rattle.wesl_resolve.specs.Found.{Answer, Asked, HasAsked, AsksFor, TellsUnit, SameAnswers}
use Rattle.wesl_resolve.specs.declared.error.ResolveError.{ResolveError}
use Rattle.wesl_resolve.specs.declared.error.ResolveError.TheVariants.{ModuleNotFound, Syntax, Unsupported, GaveUp, OutOfMemory}
use Rattle.core_link_spec.specs.Modules.{Path}
use Rattle.core_link_spec.specs.Rounds.{Sources}
use Rattle.core_reach.specs.Alone.{only, AsksInside, AsksMore}
use Rattle.core_reach.specs.Asking.{AsksForOne}
use Rattle.core_reach.proofs.AskingLemmas.{asked_more, nothing_more}
use Rattle.core_reach.proofs.LoadLemmas.{one_in}

-- ---- one after the other

pub more_then : (a b c : Asked) → AsksMore a b → AsksMore b c → AsksMore a c
more_then a b c one two = (one.0 ++ two.0, asked_more a one.0 two.0 b c one.1 two.1)

pub no_more : (a : Asked) → AsksMore a a
no_more a = ([], nothing_more a a refl)

pub one_or_none : (before : Asked) (n max : ℕ) (p : Path) (after : Asked) → AsksForOne before n max p after → AsksMore before after
one_or_none before n max p after asks = ⊎_elim (λ same. ([], nothing_more before after same)) (λ one. (p ∷ [], one.1)) asks

module _ (inside : Path → Bool) (a b c : Asked) (h : AsksInside inside a c) where
  pub inside_first : AsksMore b c → AsksInside inside a b
  inside_first more ps has p there = h (ps ++ more.0) (asked_more a ps more.0 b c has more.1) p (Contains-append_left ps more.0 p there)

  pub inside_then : AsksMore a b → AsksInside inside b c
  inside_then more qs has p there = h (more.0 ++ qs) (asked_more a more.0 qs b c more.1 has) p (Contains-append_right more.0 qs p there)

-- ---- what is found

pub same_only : (inside : Path → Bool) (a b : Sources) → SameAnswers a b → SameAnswers (only inside a) (only inside b)
same_only inside a b same p x = (λ h. (h.0, (same p x).0 h.1), λ h. (h.0, (same p x).1 h.1))

module _ (inside : Path → Bool) (found : Sources) (path : ModulePath) (before after : Asked) (within : AsksInside inside before after) where
  asked_for : HasAsked before (path_text path ∷ []) after → inside (path_text path) ≡ true
  asked_for has = within (path_text path ∷ []) has (path_text path) (one_in (path_text path))

  -- what is told of the module there
  pub told_inside : (result : Result TranslationUnit ResolveError) → AsksFor before (path_text path) result after → TellsUnit (found (path_text path)) path result → TellsUnit (only inside found (path_text path)) path result
  told_inside (Ok unit) (inl has) t = (asked_for has, t)
  told_inside (Ok unit) (inr none) t = let e = none.0 in absurd (cc)
  told_inside (Err (ModuleNotFound q)) (inl has) t = (t.0, (asked_for has, t.1))
  told_inside (Err (ModuleNotFound q)) (inr none) t = let e = none.0 in absurd (cc)
  told_inside (Err (Syntax q f)) (inl has) t = (t.0, (asked_for has, t.1))
  told_inside (Err (Syntax q f)) (inr none) t = let e = none.0 in absurd (cc)
  told_inside (Err (Unsupported q)) (inl has) t = (t.0, (asked_for has, t.1))
  told_inside (Err (Unsupported q)) (inr none) t = let e = none.0 in absurd (cc)
  told_inside (Err (GaveUp q r)) asks t = t
  told_inside (Err OutOfMemory) asks t = tt
