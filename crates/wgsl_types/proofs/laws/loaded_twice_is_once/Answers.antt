use Rattle.wgsl_types.proofs.Lawful as law
use Rattle.wgsl_types.proofs.laws.loaded_twice_is_once.Goals as goal

pub returns : goal.returns
returns c = law.loaded_twice
