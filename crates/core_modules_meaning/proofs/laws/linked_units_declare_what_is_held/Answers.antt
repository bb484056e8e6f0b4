use Rattle.core_modules_meaning.proofs.Declared.{linked_units_declare_what_is_held}
use Rattle.core_modules_meaning.proofs.laws.linked_units_declare_what_is_held.Goals as goal

pub returns : goal.returns
returns c = linked_units_declare_what_is_held
