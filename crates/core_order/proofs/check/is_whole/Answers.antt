use Rattle.std.proofs.Common.{refl, arith}
use Rattle.std.specs.List.{Contains}
use Rattle.core_order.specs.Checks.{IsValue}
use Rattle.core_order.proofs.Using.{up_to, value_row, value_position}
use Rattle.core_order.proofs.check.is_whole.Goals as goal

pub loop-position-preserved : goal.loop-position-preserved
loop-position-preserved c =
    let rows = c.args.rows.now in
    up_to (λ x. IsValue rows x → Contains c.args.order.now x) c.loop-position.position c.loop-position.invariant
    (λ v. c.if-not-has.ensures refl (value_row rows c.loop-position.position c.index-rows-position.result c.loop-position-test.true c.index-rows-position.is v))

pub returns : goal.returns
returns c = λ t x v. c.loop-position.invariant x (omega (arith, value_position c.args.rows.now x v, c.loop-position-test.false)) v
