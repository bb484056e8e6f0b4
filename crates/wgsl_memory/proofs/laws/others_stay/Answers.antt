use Rattle.wgsl_memory.proofs.Writes.{others_stay}
use Rattle.wgsl_memory.proofs.laws.others_stay.Goals as goal

pub returns : goal.returns
returns c = others_stay
