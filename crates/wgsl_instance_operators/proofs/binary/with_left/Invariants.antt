use Rattle.std.proofs.Common.{drop}
use Rattle.wgsl_instance.specs.Answer.{IsCollecting}
use Rattle.wgsl_instance_operators.specs.Operators as spec
use Rattle.wgsl_instance_operators.proofs.binary.with_left.Given as goal

abbrev pub invariant-loop-component : goal.invariant-loop-component
invariant-loop-component l = IsCollecting (spec.with_left l.stage l.operator l.left) l.right l.components (drop l.component-index l.right)
