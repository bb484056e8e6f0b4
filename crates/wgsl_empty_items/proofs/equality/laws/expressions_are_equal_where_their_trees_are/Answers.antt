use Rattle.wgsl_empty_items.proofs.Expressions.{expressions_decide, types_decide}
use Rattle.wgsl_empty_items.proofs.equality.laws.expressions_are_equal_where_their_trees_are.Goals as goal

pub returns-clause-expression : goal.returns-clause-expression
returns-clause-expression c = expressions_decide

pub returns-clause-named : goal.returns-clause-named
returns-clause-named c = types_decide
