use Rattle.std.proofs.Common.{ap}
use Rattle.core_lower_expressions.specs.Reduced.{rewritten}
use Rattle.core_lower_expressions.proofs.Reduces.{binary_is}
use Rattle.core_lower_expressions.proofs.expression.joined.Goals as goal

pub returns : goal.returns
returns c = ap rewritten (binary_is c.in_ok-new.field-0 c.in_ok-left.left c.in_ok-right.right _ c.args.x.now.operator _ _ c.in_ok-new.ensures c.in_ok-left.ensures c.in_ok-right.ensures)
