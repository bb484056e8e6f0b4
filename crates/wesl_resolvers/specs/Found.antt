-- What is found at the paths of modules.
use Rattle.std.specs.Prelude.{◌≡◌, ⊤, ◌↔◌, ◌⊎◌, List, [], ◌∷◌, ◌++◌, ℕ, Option, Result, Ok, Err}
use Rattle.std.specs.Option.{option_map}
use Rattle.wgsl_path.specs.declared.path.ModulePath.{ModulePath}
use Rattle.wgsl_token.specs.declared.fault.error.Error.{Error}
use Rattle.wesl_conditions.specs.declared.features.error.CondCompError.{CondCompError}
use Rattle.wgsl_declarations.specs.Tree.{UnitTree}
use Rattle.wgsl_declarations.specs.declared.unit.TranslationUnit.{TranslationUnit}
use Rattle.wgsl_declarations.specs.View.{unit_tree}
use Rattle.wesl_resolvers.specs.declared.error.ResolveError.{ResolveError}
use Rattle.wesl_resolvers.specs.declared.error.ResolveError.TheVariants.{ModuleNotFound, Syntax, GaveUp, Condition, ConditionLeft, OutOfMemory}

-- a module's unit without places, that there is none, what is wrong with its text or its conditions, or that a condition is left
pub data Answer : Type 0 where
  unit_of : UnitTree → Answer
  not_found : Answer
  faulty : Error → Answer
  conditioned : CondCompError → Answer
  left_open : Answer

-- it is a unit
abbrev pub is_unit : Answer → Type 0
is_unit (unit_of u) = ⊤
is_unit not_found = ⊥
is_unit (faulty e) = ⊥
is_unit (conditioned e) = ⊥
is_unit left_open = ⊥

-- memory aside, and texts that the parser gave up on, a call that asks for the module at a path tells what is found there
abbrev pub TellsUnit : (Answer → Type 0) → ModulePath → Result TranslationUnit ResolveError → Type 0
TellsUnit found path (Ok unit) = found (unit_of (unit_tree unit))
TellsUnit found path (Err (ModuleNotFound p)) = (p ≡ path) × found not_found
TellsUnit found path (Err (Syntax p e)) = (p ≡ path) × found (faulty e)
TellsUnit found path (Err (GaveUp p r)) = p ≡ path
TellsUnit found path (Err (Condition p e)) = (p ≡ path) × found (conditioned e)
TellsUnit found path (Err (ConditionLeft p)) = (p ≡ path) × found left_open
TellsUnit found path (Err OutOfMemory) = ⊤

-- likewise for its text
abbrev pub TellsText : (Answer → Type 0) → (List ℕ → Type 0) → ModulePath → Result (List ℕ) ResolveError → Type 0
TellsText found texts path (Ok text) = texts text
TellsText found texts path (Err (ModuleNotFound p)) = (p ≡ path) × found not_found
TellsText found texts path (Err (Syntax p e)) = ⊥
TellsText found texts path (Err (GaveUp p r)) = ⊥
TellsText found texts path (Err (Condition p e)) = ⊥
TellsText found texts path (Err (ConditionLeft p)) = ⊥
TellsText found texts path (Err OutOfMemory) = ⊤

-- nothing is found otherwise
abbrev pub SameAnswers : (ModulePath → Answer → Type 0) → (ModulePath → Answer → Type 0) → Type 0
SameAnswers old new = (p : ModulePath) (a : Answer) → old p a ↔ new p a

abbrev pub SameTexts : (ModulePath → List ℕ → Type 0) → (ModulePath → List ℕ → Type 0) → Type 0
SameTexts old new = (p : ModulePath) (text : List ℕ) → old p text ↔ new p text

-- there is a text
abbrev pub IsSomeText : (List ℕ → Type 0) → Type 0
IsSomeText texts = (text : List ℕ) × texts text

-- ---- what was asked for

-- the paths that were asked for so far, in order; `None` claims nothing
abbrev pub Asked : Type 0
Asked = Option (List ModulePath)

-- these were asked for, after those before
abbrev pub HasAsked : Asked → List ModulePath → Asked → Type 0
HasAsked before ps after = after ≡ option_map (λ qs. qs ++ ps) before

-- the module at a path was asked for; or memory was refused before that, and nothing was
abbrev pub AsksFor : Asked → ModulePath → Result TranslationUnit ResolveError → Asked → Type 0
AsksFor before p result after = HasAsked before (p ∷ []) after ⊎ ((result ≡ Err OutOfMemory) × (after ≡ before))
