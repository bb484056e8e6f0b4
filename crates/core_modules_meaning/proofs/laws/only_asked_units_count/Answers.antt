use Rattle.core_modules_meaning.proofs.Asked.{only_asked_units_count}
use Rattle.core_modules_meaning.proofs.laws.only_asked_units_count.Goals as goal

pub returns : goal.returns
returns c start one other = only_asked_units_count _ _
