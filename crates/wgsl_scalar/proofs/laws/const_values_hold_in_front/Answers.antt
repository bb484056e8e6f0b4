use Rattle.wgsl_scalar.proofs.OperatorTypes.{const_value_holds}
use Rattle.wgsl_scalar.proofs.laws.const_values_hold_in_front.Goals as goal

pub returns : goal.returns
returns c = const_value_holds
