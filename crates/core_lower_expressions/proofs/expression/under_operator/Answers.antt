use Rattle.core_lower_expressions.proofs.Reduces.{unary_node}
use Rattle.core_lower_expressions.proofs.expression.under_operator.Goals as goal

pub returns-in_ok-new-in-Parts : goal.returns-in_ok-new-in-Parts
returns-in_ok-new-in-Parts c = unary_node c.in_ok-new-in-Parts.field-0 c.in-Parts.operand _ c.args.operator c.args.operand c.in-Parts.is c.in_ok-new-in-Parts.ensures
