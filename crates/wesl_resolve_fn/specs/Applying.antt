-- What is made of the modules that a resolver finds.
use Rattle.std.specs.Prelude.{◌≡◌, ⊤, ◌⊎◌, ℕ, List, Option, Result, Ok, Err}
use Rattle.std.proofs.Common.{refl, sym, ap, ◌∙◌, subst}
use Rattle.wgsl_path.specs.declared.path.ModulePath.{ModulePath}
use Rattle.wgsl_declarations.specs.Tree.{UnitTree}
use Rattle.wgsl_declarations.specs.declared.unit.TranslationUnit.{TranslationUnit}
use Rattle.wgsl_declarations.specs.View.{unit_tree}
use Rattle.wesl_resolvers.specs.declared.error.ResolveError.{ResolveError}
use Rattle.wesl_resolvers.specs.declared.error.ResolveError.TheVariants as resolve
use Rattle.wesl_resolvers.specs.Found.{Answer, unit_of, not_found, faulty, conditioned, left_open, is_unit, IsSomeText}
use Rattle.wesl_resolve_fn.specs.declared.resolve_fn.ApplyError.{ApplyError}
use Rattle.wesl_resolve_fn.specs.declared.resolve_fn.ApplyError.TheVariants.{Condition, Left, OutOfMemory}

-- memory aside, what came of a module, which then is this
abbrev pub TellsApplied : Answer → UnitTree → Result Unit ApplyError → Type 0
TellsApplied a new (Ok x) = a ≡ unit_of new
TellsApplied a new (Err (Condition e)) = a ≡ conditioned e
TellsApplied a new (Err Left) = a ≡ left_open
TellsApplied a new (Err OutOfMemory) = ⊤

-- a refusal, of the module at a path
abbrev pub refused_at : ModulePath → ApplyError → ResolveError
refused_at path (Condition e) = resolve.Condition path e
refused_at path Left = resolve.ConditionLeft path
refused_at path OutOfMemory = resolve.OutOfMemory

-- that, or memory was refused
abbrev pub RefusedAs : ModulePath → ApplyError → ResolveError → Type 0
RefusedAs path e told = (told ≡ refused_at path e) ⊎ (told ≡ resolve.OutOfMemory)

-- the same of a module at a path
abbrev pub TellsMade : Answer → ModulePath → Result TranslationUnit ResolveError → Type 0
TellsMade a path (Ok unit) = a ≡ unit_of (unit_tree unit)
TellsMade a path (Err (resolve.ModuleNotFound p)) = ⊥
TellsMade a path (Err (resolve.Syntax p e)) = ⊥
TellsMade a path (Err (resolve.GaveUp p r)) = ⊥
TellsMade a path (Err (resolve.Condition p e)) = (p ≡ path) × (a ≡ conditioned e)
TellsMade a path (Err (resolve.ConditionLeft p)) = (p ≡ path) × (a ≡ left_open)
TellsMade a path (Err resolve.OutOfMemory) = ⊤

-- what is made of what is found: of a module what the function says, and all else stays
abbrev pub made_of : (UnitTree → Answer) → Answer → Answer
made_of f (unit_of u) = f u
made_of f not_found = not_found
made_of f (faulty e) = faulty e
made_of f (conditioned e) = conditioned e
made_of f left_open = left_open

-- something is found of which this is made
abbrev pub IsMadeOf : (UnitTree → Answer) → (Answer → Type 0) → Answer → Type 0
IsMadeOf f found a = (b : Answer) × found b × (a ≡ made_of f b)

module _ (f : UnitTree → Answer) (found : Answer → Type 0) where
  -- where one thing is found at most, one is made
  pub one_made : ((a b : Answer) → found a → found b → a ≡ b) → (a b : Answer) → IsMadeOf f found a → IsMadeOf f found b → a ≡ b
  one_made one a b h k = h.2 ∙ ap (made_of f) (one h.0 k.0 h.1 k.1) ∙ sym k.2

  text_by : (texts : List ℕ → Type 0) → ((u : UnitTree) → found (unit_of u) → IsSomeText texts) → (u : UnitTree) (b : Answer) → found b → unit_of u ≡ made_of f b → IsSomeText texts
  text_by texts there u (unit_of v) is made = there v is
  text_by texts there u not_found is made = absurd (subst is_unit made tt)
  text_by texts there u (faulty e) is made = absurd (subst is_unit made tt)
  text_by texts there u (conditioned e) is made = absurd (subst is_unit made tt)
  text_by texts there u left_open is made = absurd (subst is_unit made tt)

  -- a module is made of a module alone
  pub text_of_made : (texts : List ℕ → Type 0) → ((u : UnitTree) → found (unit_of u) → IsSomeText texts) → (u : UnitTree) → IsMadeOf f found (unit_of u) → IsSomeText texts
  text_of_made texts there u h = text_by texts there u h.0 h.1 h.2
