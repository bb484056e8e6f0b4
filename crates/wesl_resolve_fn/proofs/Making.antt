-- What is made of what is found.
use Rattle.std.proofs.Common.{◌≡◌, refl, sym, subst, ◌⊎◌, inl, inr, List, ℕ, Option, Result, Ok, Err}
use Rattle.std.specs.Prelude.{◌↔◌}
use Rattle.wgsl_path.specs.declared.path.ModulePath.{ModulePath}
use Rattle.wgsl_declarations.specs.Tree.{UnitTree}
use Rattle.wgsl_declarations.specs.declared.unit.TranslationUnit.{TranslationUnit}
use Rattle.wgsl_declarations.specs.View.{unit_tree}
use Rattle.wesl_resolvers.specs.declared.error.ResolveError.{ResolveError}
use Rattle.wesl_resolvers.specs.declared.error.ResolveError.TheVariants as resolve
use Rattle.wesl_resolvers.specs.Found.{Answer, unit_of, not_found, faulty, conditioned, left_open, TellsUnit, TellsText, SameAnswers, Asked, AsksFor}
use Rattle.wesl_resolve_fn.specs.declared.resolve_fn.ApplyError.{ApplyError}
use Rattle.wesl_resolve_fn.specs.declared.resolve_fn.ApplyError.TheVariants.{Condition, Left, OutOfMemory}
use Rattle.wesl_resolve_fn.specs.Applying.{TellsApplied, RefusedAs, refused_at, TellsMade, IsMadeOf}

refused_there : (a : Answer) (new : UnitTree) (path : ModulePath) (e : ApplyError) → TellsApplied a new (Err e) → TellsMade a path (Err (refused_at path e))
refused_there a new path (Condition e) h = (refl, h)
refused_there a new path Left h = (refl, h)
refused_there a new path OutOfMemory h = tt

pub made_refused : (a : Answer) (new : UnitTree) (path : ModulePath) (e : ApplyError) (told : ResolveError) → TellsApplied a new (Err e) → RefusedAs path e told → TellsMade a path (Err told)
made_refused a new path e told h (inl is) = let P : ResolveError → Type 0 = λ t. TellsMade a path (Err t) in subst P (sym is) (refused_there a new path e h)
made_refused a new path e told h (inr is) = let P : ResolveError → Type 0 = λ t. TellsMade a path (Err t) in subst P (sym is) tt

module _ (f : UnitTree → Answer) where
  pub made_told : (found : Answer → Type 0) (path : ModulePath) (u : UnitTree) (r : Result TranslationUnit ResolveError) → found (unit_of u) → TellsMade (f u) path r → TellsUnit (IsMadeOf f found) path r
  made_told found path u (Ok unit) h k = (unit_of u, h, sym k)
  made_told found path u (Err (resolve.ModuleNotFound p)) h k = absurd k
  made_told found path u (Err (resolve.Syntax p e)) h k = absurd k
  made_told found path u (Err (resolve.GaveUp p r)) h k = absurd k
  made_told found path u (Err (resolve.Condition p e)) h k = (k.0, (unit_of u, h, sym k.1))
  made_told found path u (Err (resolve.ConditionLeft p)) h k = (k.0, (unit_of u, h, sym k.1))
  made_told found path u (Err resolve.OutOfMemory) h k = tt

  pub error_stays : (found : Answer → Type 0) (path : ModulePath) (e : ResolveError) → TellsUnit found path (Err e) → TellsUnit (IsMadeOf f found) path (Err e)
  error_stays found path (resolve.ModuleNotFound p) h = (h.0, (not_found, h.1, refl))
  error_stays found path (resolve.Syntax p e) h = (h.0, (faulty e, h.1, refl))
  error_stays found path (resolve.GaveUp p r) h = h
  error_stays found path (resolve.Condition p e) h = (h.0, (conditioned e, h.1, refl))
  error_stays found path (resolve.ConditionLeft p) h = (h.0, (left_open, h.1, refl))
  error_stays found path resolve.OutOfMemory h = tt

  pub text_stays : (found : Answer → Type 0) (texts : List ℕ → Type 0) (path : ModulePath) (r : Result (List ℕ) ResolveError) → TellsText found texts path r → TellsText (IsMadeOf f found) texts path r
  text_stays found texts path (Ok text) h = h
  text_stays found texts path (Err (resolve.ModuleNotFound p)) h = (h.0, (not_found, h.1, refl))
  text_stays found texts path (Err (resolve.Syntax p e)) h = h
  text_stays found texts path (Err (resolve.GaveUp p r)) h = h
  text_stays found texts path (Err (resolve.Condition p e)) h = h
  text_stays found texts path (Err (resolve.ConditionLeft p)) h = h
  text_stays found texts path (Err resolve.OutOfMemory) h = tt

  pub same_made : (old new : ModulePath → Answer → Type 0) → SameAnswers old new → SameAnswers (λ p. IsMadeOf f (old p)) (λ p. IsMadeOf f (new p))
  same_made old new same p a = (λ h. (h.0, (same p h.0).0 h.1, h.2), λ h. (h.0, (same p h.0).1 h.1, h.2))

pub asks_made : (before after : Asked) (path : ModulePath) (unit : TranslationUnit) (r : Result TranslationUnit ResolveError) → AsksFor before path (Ok unit) after → AsksFor before path r after
asks_made before after path unit r (inl h) = inl h
asks_made before after path unit r (inr h) = let no : Ok unit ≡ Err resolve.OutOfMemory = h.0 in absurd (cc)
