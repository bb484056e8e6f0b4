use Rattle.core_modules_meaning.proofs.Agreement.{holds_of_alike_modules}
use Rattle.core_modules_meaning.proofs.laws.holds_of_alike_modules.Goals as goal

pub returns : goal.returns
returns c = holds_of_alike_modules
