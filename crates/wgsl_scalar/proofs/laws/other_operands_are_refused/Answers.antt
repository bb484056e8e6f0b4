use Rattle.wgsl_scalar.proofs.Types.{others_refused}
use Rattle.wgsl_scalar.proofs.laws.other_operands_are_refused.Goals as goal

pub returns : goal.returns
returns c = others_refused
