use Rattle.core_modules_meaning.proofs.Determined.{loading_comes_to_one}
use Rattle.core_modules_meaning.proofs.laws.loading_comes_to_one.Goals as goal

pub returns : goal.returns
returns c start resolver = loading_comes_to_one _
