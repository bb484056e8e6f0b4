use Rattle.core_lower_expressions.proofs.Reduces.{parenthesized_node}
use Rattle.core_lower_expressions.proofs.expression.in_parentheses.Goals as goal

pub returns-in_ok-new-in-Parts : goal.returns-in_ok-new-in-Parts
returns-in_ok-new-in-Parts c = parenthesized_node c.in_ok-new-in-Parts.field-0 c.in-Parts.expression _ c.args.inner c.in-Parts.is c.in_ok-new-in-Parts.ensures
