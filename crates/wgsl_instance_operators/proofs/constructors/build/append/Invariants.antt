use Rattle.std.proofs.Common.{◌≡◌, ◌++◌, take}
use Rattle.wgsl_instance_operators.proofs.constructors.build.append.Given as goal

abbrev pub invariant-loop-other : goal.invariant-loop-other
invariant-loop-other l = l.parts ≡ l.fn.parts ++ take l.other-index l.others
