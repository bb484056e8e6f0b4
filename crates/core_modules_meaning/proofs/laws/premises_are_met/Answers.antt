use Rattle.core_modules_meaning.proofs.Example.{premises_are_met}
use Rattle.core_modules_meaning.proofs.laws.premises_are_met.Goals as goal

pub returns : goal.returns
returns c = premises_are_met
