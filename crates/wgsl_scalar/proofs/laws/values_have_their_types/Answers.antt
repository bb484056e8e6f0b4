use Rattle.wgsl_scalar.proofs.Types.{value_has_type}
use Rattle.wgsl_scalar.proofs.laws.values_have_their_types.Goals as goal

pub returns : goal.returns
returns c = value_has_type
