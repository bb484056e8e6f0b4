-- Where refusals are.
use Rattle.std.specs.Prelude.{ℕ, map, Err}
use Rattle.std.specs.List.{Contains}
use Rattle.core_syntax.specs.Tree.{UnitTree as Module}
use Rattle.core_syntax.specs.Names.{declared_name}
use Rattle.core_eval.specs.declared.error.DeclarationFault.{DeclarationFault}
use Rattle.core_lower_expressions.specs.Lowered.{Lowers}

-- the declaration that lowering is refused for is one that the unit declares
abbrev pub RefusalsAreInDeclarations : Type 0
RefusalsAreInDeclarations = (steps : ℕ) (unit : Module) (r : DeclarationFault) → Lowers steps unit (Err r) → Contains (map declared_name unit.declarations) r.declaration
