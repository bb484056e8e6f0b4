-- A unit is lowered in one way.
use Rattle.std.specs.Prelude.{◌≡◌, ℕ, Result}
use Rattle.core_syntax.specs.Tree.{UnitTree as Module}
use Rattle.core_eval.specs.declared.error.DeclarationFault.{DeclarationFault}
use Rattle.core_lower_expressions.specs.Lowered.{Lowers}

-- it is lowered to one unit, or has one refusal
abbrev pub LoweredOnce : Type 0
LoweredOnce = (steps : ℕ) (unit : Module) (one other : Result Module DeclarationFault) → Lowers steps unit one → Lowers steps unit other → one ≡ other
