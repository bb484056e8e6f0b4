use Rattle.core_unit.proofs.Once.{compiled_or_refused}
use Rattle.core_unit.proofs.laws.compiled_or_refused.Goals as goal

pub returns : goal.returns
returns c = compiled_or_refused
