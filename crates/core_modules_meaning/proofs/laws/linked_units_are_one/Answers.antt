use Rattle.core_modules_meaning.proofs.Unique.{linked_units_are_one}
use Rattle.core_modules_meaning.proofs.laws.linked_units_are_one.Goals as goal

pub returns : goal.returns
returns c = linked_units_are_one
