use Rattle.core_modules_meaning.proofs.Loading.{what_is_loaded}
use Rattle.core_modules_meaning.proofs.laws.what_is_loaded.Goals as goal

pub returns : goal.returns
returns c start resolver = what_is_loaded _
