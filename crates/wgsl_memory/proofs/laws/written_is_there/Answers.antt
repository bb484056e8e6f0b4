use Rattle.wgsl_memory.proofs.Writes.{written_is_there}
use Rattle.wgsl_memory.proofs.laws.written_is_there.Goals as goal

pub returns : goal.returns
returns c = written_is_there
