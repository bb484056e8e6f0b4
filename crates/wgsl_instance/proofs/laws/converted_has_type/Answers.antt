use Rattle.wgsl_instance.proofs.ConvertedTypes.{converted_has_type}
use Rattle.wgsl_instance.proofs.laws.converted_has_type.Goals as goal

pub returns : goal.returns
returns c = converted_has_type
