use Rattle.wgsl_memory.proofs.Writes.{loaded_twice}
use Rattle.wgsl_memory.proofs.laws.loaded_twice_is_once.Goals as goal

pub returns : goal.returns
returns c = loaded_twice
