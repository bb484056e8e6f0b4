use Rattle.core_modules_meaning.proofs.Clashes.{clashes_are_one}
use Rattle.core_modules_meaning.proofs.laws.clashes_are_one.Goals as goal

pub returns : goal.returns
returns c = clashes_are_one
