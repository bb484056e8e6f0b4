use Rattle.std.proofs.Common.{◌≡◌, take}
use Rattle.wgsl_instance_operators.specs.Built as spec
use Rattle.wgsl_instance_operators.proofs.constructors.call.types_of.Given as goal

abbrev pub invariant-loop-arg : goal.invariant-loop-arg
invariant-loop-arg l = l.types ≡ spec.types_of (take l.arg-index l.args)
