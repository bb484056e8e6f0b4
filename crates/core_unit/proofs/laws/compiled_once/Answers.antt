use Rattle.core_unit.proofs.Once.{compiled_once}
use Rattle.core_unit.proofs.laws.compiled_once.Goals as goal

pub returns : goal.returns
returns c = compiled_once
