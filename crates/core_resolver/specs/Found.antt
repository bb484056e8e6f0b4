-- What the part of the language finds where whole modules are found.
use Rattle.std.specs.Prelude.{◌≡◌, ◌⊎◌, ⊤, ℕ, List, Option, Some, None, Result, Ok, Err}
use Rattle.wgsl_path.specs.declared.path.ModulePath.{ModulePath}
use Rattle.wgsl_path.specs.Reading.{PathResult, parts, path_of}
use Rattle.wesl_conditions.specs.declared.features.error.CondCompError.{CondCompError}
use Rattle.wgsl_declarations.specs.Tree as whole_trees
use Rattle.core_syntax.specs.Tree.{UnitTree}
use Rattle.core_narrowing.specs.Widening.{widen_unit}
use Rattle.core_narrowing.specs.InCore.{IsInCore}
use Rattle.wesl_resolvers.specs.Found as whole
use Rattle.wesl_resolvers.specs.declared.error.ResolveError as whole_error
use Rattle.wesl_resolvers.specs.declared.error.ResolveError.TheVariants as wholly
use Rattle.wesl_resolve.specs.declared.error.ResolveError.{ResolveError}
use Rattle.wesl_resolve.specs.declared.error.ResolveError.TheVariants as part
use Rattle.core_syntax.specs.declared.unit.TranslationUnit.{TranslationUnit}
use Rattle.core_syntax.specs.View.{unit_tree}
use Rattle.core_narrowing.specs.declared.error.NarrowError.{NarrowError}
use Rattle.core_narrowing.specs.declared.error.NarrowError.TheVariants as narrowing
use Rattle.wesl_resolve.specs.Found.{Answer, unit_of, not_found, faulty, unsupported}

-- What is found is beyond the part: a module that no unit of the part is, or one whose conditions are at fault or are left open.
pub data IsBeyond (found : whole.Answer → Type 0) : Type 0 where
  a_module : (m : whole_trees.UnitTree) → found (whole.unit_of m) → ((u : UnitTree) → widen_unit u ≡ m → IsInCore u → ⊥) → IsBeyond found
  a_condition : (e : CondCompError) → found (whole.conditioned e) → IsBeyond found
  left_open : found whole.left_open → IsBeyond found

-- what the part finds: the unit that a module is, no module, the fault of its text, or what is beyond the part
abbrev pub IsCoreAnswer : (whole.Answer → Type 0) → Answer → Type 0
IsCoreAnswer found (unit_of u) = found (whole.unit_of (widen_unit u)) × IsInCore u
IsCoreAnswer found not_found = found whole.not_found
IsCoreAnswer found (faulty e) = found (whole.faulty e)
IsCoreAnswer found unsupported = IsBeyond found

-- what is found at the path that a text is read as
abbrev pub at_text : {A : Type 0} → (ModulePath → A → Type 0) → List ℕ → A → Type 0
at_text found p a = (q : ModulePath) × (path_of (parts p) ≡ Ok q) × found q a

-- what the part finds at a printed path
abbrev pub part_found : (ModulePath → whole.Answer → Type 0) → List ℕ → Answer → Type 0
part_found found = at_text (λ q. IsCoreAnswer (found q))

-- the name that a message gives the module at a printed path
abbrev pub name_by : {A : Type 0} → (ModulePath → Option A) → PathResult ModulePath → Option A
name_by names (Ok q) = names q
name_by names (Err e) = None

abbrev pub part_names : {A : Type 0} → (ModulePath → Option A) → List ℕ → Option A
part_names names p = name_by names (path_of (parts p))

-- ---- steps

-- of a module, the unit of the part that it is, or that it is beyond the part
abbrev pub Finds : whole_trees.UnitTree → Result TranslationUnit NarrowError → Type 0
Finds m (Ok u) = (widen_unit (unit_tree u) ≡ m) × IsInCore (unit_tree u)
Finds m (Err narrowing.Unsupported) = (u : UnitTree) → widen_unit u ≡ m → IsInCore u → ⊥
Finds m (Err narrowing.OutOfMemory) = ⊤

-- memory aside, what is told of a module that was found at a path
abbrev pub TellsCore : whole_trees.UnitTree → ModulePath → Result TranslationUnit ResolveError → Type 0
TellsCore m path (Ok u) = (widen_unit (unit_tree u) ≡ m) × IsInCore (unit_tree u)
TellsCore m path (Err (part.ModuleNotFound p)) = ⊥
TellsCore m path (Err (part.Syntax p f)) = ⊥
TellsCore m path (Err (part.Unsupported p)) = (p ≡ path) × ((u : UnitTree) → widen_unit u ≡ m → IsInCore u → ⊥)
TellsCore m path (Err (part.GaveUp p r)) = ⊥
TellsCore m path (Err part.OutOfMemory) = ⊤

-- the module at a path is unsupported, or memory was refused
abbrev pub IsUnsupportedAt : ModulePath → ResolveError → Type 0
IsUnsupportedAt path told = (told ≡ part.Unsupported path) ⊎ (told ≡ part.OutOfMemory)

-- the refusal of a whole module, as one of the part
abbrev pub part_refusal : ModulePath → whole_error.ResolveError → ResolveError
part_refusal path (wholly.ModuleNotFound q) = part.ModuleNotFound path
part_refusal path (wholly.Syntax q f) = part.Syntax path f
part_refusal path (wholly.GaveUp q r) = part.GaveUp path r
part_refusal path (wholly.Condition q f) = part.Unsupported path
part_refusal path (wholly.ConditionLeft q) = part.Unsupported path
part_refusal path wholly.OutOfMemory = part.OutOfMemory

-- that, or memory was refused
abbrev pub TellsRefused : whole_error.ResolveError → ModulePath → ResolveError → Type 0
TellsRefused e path told = (told ≡ part_refusal path e) ⊎ (told ≡ part.OutOfMemory)
