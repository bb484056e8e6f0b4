use Rattle.core_meaning.proofs.WrittenValue.{value-written}
use Rattle.core_meaning.proofs.laws.written_values_hold.Goals as goal

pub returns : goal.returns
returns c w env v has = value-written w env has v
