use Rattle.std.proofs.Common.{drop}
use Rattle.wgsl_scalar.specs.Operators as on_scalars
use Rattle.wgsl_instance.specs.Answer.{IsCollecting}
use Rattle.wgsl_instance_operators.proofs.unary.of_components.Given as goal

abbrev pub invariant-loop-operand : goal.invariant-loop-operand
invariant-loop-operand l = IsCollecting (on_scalars.unary_value l.stage l.operator) l.operands l.components (drop l.operand-index l.operands)
