use Rattle.wgsl_instance_operators.proofs.Types.{values_have_their_types}
use Rattle.wgsl_instance_operators.proofs.laws.values_have_their_types.Goals as goal

pub returns : goal.returns
returns c = values_have_their_types
