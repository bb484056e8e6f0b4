use Rattle.wgsl_scalar.proofs.OperatorTypes.{converts_alike}
use Rattle.wgsl_scalar.proofs.laws.conversions_are_those_of_types.Goals as goal

pub returns : goal.returns
returns c = converts_alike
