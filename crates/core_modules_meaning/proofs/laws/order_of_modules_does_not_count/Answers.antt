use Rattle.core_modules_meaning.proofs.Same.{order_of_modules_does_not_count}
use Rattle.core_modules_meaning.proofs.laws.order_of_modules_does_not_count.Goals as goal

pub returns : goal.returns
returns c = order_of_modules_does_not_count
