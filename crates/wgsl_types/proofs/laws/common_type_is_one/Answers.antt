use Rattle.wgsl_types.proofs.Lawful as law
use Rattle.wgsl_types.proofs.laws.common_type_is_one.Goals as goal

pub returns : goal.returns
returns c = law.one_common
