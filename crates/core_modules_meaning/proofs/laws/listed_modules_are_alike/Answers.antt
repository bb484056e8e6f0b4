use Rattle.core_modules_meaning.proofs.Agreement.{listed_modules_are_alike}
use Rattle.core_modules_meaning.proofs.laws.listed_modules_are_alike.Goals as goal

pub returns : goal.returns
returns g c resolver = listed_modules_are_alike (g.R.Resolver.answers resolver)
