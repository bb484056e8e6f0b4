use Rattle.core_laws.proofs.Declared.{compiled_units_declare_held_functions}
use Rattle.core_laws.proofs.laws.compiled_units_declare_held_functions.Goals as goal

pub returns : goal.returns
returns c = compiled_units_declare_held_functions
