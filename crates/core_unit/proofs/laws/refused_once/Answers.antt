use Rattle.core_unit.proofs.Once.{refused_once}
use Rattle.core_unit.proofs.laws.refused_once.Goals as goal

pub returns : goal.returns
returns c = refused_once
