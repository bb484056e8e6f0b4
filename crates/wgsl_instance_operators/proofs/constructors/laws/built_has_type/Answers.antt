use Rattle.wgsl_instance_operators.proofs.ConstructorsTypes.{built_has_type}
use Rattle.wgsl_instance_operators.proofs.constructors.laws.built_has_type.Goals as goal

pub returns : goal.returns
returns c = built_has_type
