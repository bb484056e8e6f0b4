use Rattle.std.proofs.Common.{arith}
use Rattle.core_order.proofs.Using.{marks_past, marks_more, marks_whole}
use Rattle.core_order.proofs.check.mark.Goals as goal

pub loop-place-preserved-in_default : goal.loop-place-preserved-in_default
loop-place-preserved-in_default c =
    marks_past c.args.places.now c.loop-place.place-index c.place-item.result _ _ _ c.loop-place-test.true c.place-item.is c.loop-place.invariant

pub loop-place-preserved-then-position-users : goal.loop-place-preserved-then-position-users
loop-place-preserved-then-position-users c =
    marks_past c.args.places.now c.loop-place.place-index c.place-item.result _ _ _ c.loop-place-test.true c.place-item.is c.loop-place.invariant

pub loop-place-preserved : goal.loop-place-preserved
loop-place-preserved c =
    marks_more c.args.places.now c.loop-place.place-index c.place-item.result _ _ _ c.loop-place-test.true c.place-item.is c.loop-place.invariant
    c.in-Global.position c.in-Global.is (omega (arith, c.if-position-users.false))

pub returns : goal.returns
returns c = marks_whole c.args.places.now c.loop-place.place-index _ _ _ (omega (arith, c.loop-place-test.false)) c.loop-place.invariant
