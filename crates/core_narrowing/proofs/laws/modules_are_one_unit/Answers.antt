use Rattle.core_narrowing.proofs.Lying as lying
use Rattle.core_narrowing.proofs.laws.modules_are_one_unit.Goals as goal

pub returns : goal.returns
returns c = lying.one_unit
