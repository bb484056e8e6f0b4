-- A node that is nested too deep is refused at its place.
use Rattle.std.proofs.Common.{refl}
use Rattle.wgsl_token.specs.declared.fault.error.Refusal.TheVariants.{TooDeep}
use Rattle.wgsl_token.proofs.fault.error.Error.refused.Goals as goal

pub returns-in-TooDeep-clause-refusal : goal.returns-in-TooDeep-clause-refusal
returns-in-TooDeep-clause-refusal c = (TooDeep c.in-TooDeep.span, refl)
