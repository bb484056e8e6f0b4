use Rattle.wgsl_instance.proofs.Typings.{zero_has_type}
use Rattle.wgsl_instance.proofs.laws.zero_has_type.Goals as goal

pub returns : goal.returns
returns c = zero_has_type
