use Rattle.std.proofs.Common.{rules}
use Rattle.core_validate.proofs.TreeLemmas.{names_of_trees}
use Rattle.core_validate.proofs.index.check_inside.Goals as goal

pub returns-in-Function : goal.returns-in-Function
returns-in-Function c = rw (c.in-Function.is, names_of_trees c.in-Function.x.parameters) (search rules)
