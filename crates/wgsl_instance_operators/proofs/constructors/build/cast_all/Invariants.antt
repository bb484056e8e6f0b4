use Rattle.std.proofs.Common.{drop}
use Rattle.wgsl_scalar.specs.Conversions as scalars
use Rattle.wgsl_instance.specs.Answer.{IsCollecting}
use Rattle.wgsl_instance_operators.proofs.constructors.build.cast_all.Given as goal

abbrev pub invariant-loop-part : goal.invariant-loop-part
invariant-loop-part l = IsCollecting (scalars.constructed l.ty) l.parts l.components (drop l.part-index l.parts)
