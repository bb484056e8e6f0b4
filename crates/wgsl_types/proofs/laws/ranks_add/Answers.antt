use Rattle.wgsl_types.proofs.Lawful as law
use Rattle.wgsl_types.proofs.laws.ranks_add.Goals as goal

pub returns : goal.returns
returns c = law.ranks
