use Rattle.std.proofs.Common.{drop}
use Rattle.wgsl_instance.specs.Answer.{IsCollecting}
use Rattle.wgsl_instance.specs.Converted.{converted}
use Rattle.wgsl_instance_operators.proofs.constructors.build.convert_all.Given as goal

abbrev pub invariant-loop-arg : goal.invariant-loop-arg
invariant-loop-arg l = IsCollecting (λ x. converted x l.ty) l.args l.elements (drop l.arg-index l.args)
