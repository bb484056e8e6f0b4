use Rattle.wgsl_instance_operators.proofs.Types.{unary_values_have_their_types}
use Rattle.wgsl_instance_operators.proofs.laws.unary_values_have_their_types.Goals as goal

pub returns : goal.returns
returns c = unary_values_have_their_types
