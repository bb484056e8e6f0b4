use Rattle.std.proofs.Common.{arith}
use Rattle.std.proofs.lemmas.Grind.{common_steps}
use Rattle.core_validate.proofs.TreeLemmas.{names_of_trees}
use Rattle.core_validate.proofs.place.add_function.Goals as goal

pub returns : goal.returns
returns c = rw (names_of_trees c.args.function.now.parameters) (grind (arith, common_steps))
