use Rattle.core_lower.proofs.Once.{lowered_once}
use Rattle.core_lower.proofs.laws.lowered_once.Goals as goal

pub returns : goal.returns
returns c = lowered_once
