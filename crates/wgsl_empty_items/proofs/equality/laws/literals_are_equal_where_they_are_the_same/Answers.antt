use Rattle.wgsl_empty_items.proofs.ExpressionTest.{literals_decide}
use Rattle.wgsl_empty_items.proofs.equality.laws.literals_are_equal_where_they_are_the_same.Goals as goal

pub returns : goal.returns
returns c = literals_decide
