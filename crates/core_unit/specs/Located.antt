-- Which declaration a refusal is about.
use Rattle.std.specs.Prelude.{◌≡◌, ℕ, Option, Some, None}
use Rattle.std.specs.List.{Contains}
use Rattle.core_syntax.specs.Tree.{UnitTree}
use Rattle.core_validate.specs.Scopes.{Name, names}
use Rattle.core_unit.specs.declared.error.UnitRefusal.{UnitRefusal}
use Rattle.core_unit.specs.declared.error.UnitRefusal.TheVariants.{Validate, UnclearName, Eval, Unprintable, GaveUp, OutOfMemory}
use Rattle.core_unit.specs.Compiled.{Refuses}

-- the declaration that a refusal names, where it names one: a fault of validation or of evaluation stands in one
abbrev pub declaration_of : UnitRefusal → Option Name
declaration_of (Validate f) = Some f.declaration
declaration_of (Eval r) = Some r.declaration
declaration_of (UnclearName x) = None
declaration_of (Unprintable x) = None
declaration_of (GaveUp r) = None
declaration_of OutOfMemory = None

-- it is one that the unit declares
abbrev pub RefusalsAreInDeclarations : Type 0
RefusalsAreInDeclarations = (steps : ℕ) (unit : UnitTree) (refusal : UnitRefusal) (y : Name) → Refuses steps unit refusal → declaration_of refusal ≡ Some y → Contains (names unit) y
