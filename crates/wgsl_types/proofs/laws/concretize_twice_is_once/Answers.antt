use Rattle.wgsl_types.proofs.Lawful as law
use Rattle.wgsl_types.proofs.laws.concretize_twice_is_once.Goals as goal

pub returns : goal.returns
returns c = law.concrete_twice
