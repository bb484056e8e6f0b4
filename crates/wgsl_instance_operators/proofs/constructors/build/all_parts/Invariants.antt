use Rattle.std.proofs.Common.{drop}
use Rattle.wgsl_instance_operators.proofs.Gathering.{IsGathering}
use Rattle.wgsl_instance_operators.proofs.constructors.build.all_parts.Given as goal

abbrev pub invariant-loop-arg : goal.invariant-loop-arg
invariant-loop-arg l = IsGathering l.args l.parts (drop l.arg-index l.args)
