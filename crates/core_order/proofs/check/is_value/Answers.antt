use Rattle.std.proofs.Common.{rules}
use Rattle.core_order.proofs.Starting.{value_in}
use Rattle.core_order.proofs.check.is_value.Goals as goal

pub returns-then-position-rows : goal.returns-then-position-rows
returns-then-position-rows c = λ t. value_in c.args.rows.now c.args.position c.index-rows-position.result c.if-position-rows.true c.index-rows-position.is (search rules)
