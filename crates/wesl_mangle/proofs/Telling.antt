-- What is told where a module that was resolved is recorded.
use Rattle.std.proofs.Common.{◌≡◌, refl, sym, ap, ◌∙◌, subst, ◌⊎◌, inl, inr, ℕ, List, Result, Ok, Err}
use Rattle.std.specs.Prelude.{◌↔◌}
use Rattle.wgsl_path.specs.declared.path.ModulePath.{ModulePath}
use Rattle.wgsl_declarations.specs.declared.unit.TranslationUnit.{TranslationUnit}
use Rattle.wesl_resolvers.specs.declared.error.ResolveError.{ResolveError}
use Rattle.wesl_resolvers.specs.declared.error.ResolveError.TheVariants.{ModuleNotFound, Syntax, GaveUp, Condition, ConditionLeft, OutOfMemory}
use Rattle.wesl_resolvers.specs.Found.{Answer, TellsUnit, TellsText, SameAnswers, SameTexts, Asked, AsksFor}
use Rattle.wesl_mangle.specs.Recorded.{TellsNoText}

-- where there is no text there is no module
pub text_refused : (found : Answer → Type 0) (texts : List ℕ → Type 0) (path : ModulePath) (e : ResolveError) → TellsText found texts path (Err e) → TellsNoText found path (Err e)
text_refused found texts path (ModuleNotFound p) h = h
text_refused found texts path (Syntax p f) h = h
text_refused found texts path (GaveUp p r) h = h
text_refused found texts path (Condition p f) h = h
text_refused found texts path (ConditionLeft p) h = h
text_refused found texts path OutOfMemory h = tt

pub unit_refused : (old new : ModulePath → Answer → Type 0) (path : ModulePath) (e : ResolveError) → SameAnswers old new → TellsNoText (new path) path (Err e) → TellsUnit (old path) path (Err e)
unit_refused old new path (ModuleNotFound p) same h = (h.0, (same path _).1 h.1)
unit_refused old new path (Syntax p f) same h = absurd h
unit_refused old new path (GaveUp p r) same h = absurd h
unit_refused old new path (Condition p f) same h = absurd h
unit_refused old new path (ConditionLeft p) same h = absurd h
unit_refused old new path OutOfMemory same h = tt

pub two_same : {X : Type 0} (a b c : ModulePath → X → Type 0) → ((p : ModulePath) (x : X) → a p x ↔ b p x) → ((p : ModulePath) (x : X) → b p x ↔ c p x) → (p : ModulePath) (x : X) → a p x ↔ c p x
two_same a b c one two p x = (λ h. (two p x).0 ((one p x).0 h), λ h. (one p x).1 ((two p x).1 h))

-- what was asked for stays
pub asks_still : (before between after : Asked) (path : ModulePath) (unit : TranslationUnit) (r : Result TranslationUnit ResolveError)
    → AsksFor before path (Ok unit) between → after ≡ between → AsksFor before path r after
asks_still before between after path unit r (inl h) same = inl (same ∙ h)
asks_still before between after path unit r (inr h) same = let wrong : Ok unit ≡ Err OutOfMemory = h.0 in absurd (cc)
