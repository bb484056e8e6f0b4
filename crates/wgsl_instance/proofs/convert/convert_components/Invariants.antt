use Rattle.std.proofs.Common.{drop}
use Rattle.wgsl_scalar.specs.Conversions as scalars
use Rattle.wgsl_instance.specs.Answer.{IsCollecting}
use Rattle.wgsl_instance.proofs.convert.convert_components.Given as goal

abbrev pub invariant-loop-component : goal.invariant-loop-component
invariant-loop-component l = IsCollecting (scalars.converted l.ty) l.components l.converted (drop l.component-index l.components)
