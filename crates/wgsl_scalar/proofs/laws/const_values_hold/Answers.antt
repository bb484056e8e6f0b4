use Rattle.wgsl_scalar.proofs.Stages.{const_value_holds}
use Rattle.wgsl_scalar.proofs.laws.const_values_hold.Goals as goal

pub returns : goal.returns
returns c = const_value_holds
