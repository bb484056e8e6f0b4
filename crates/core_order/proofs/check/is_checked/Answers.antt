use Rattle.std.proofs.Common.{refl}
use Rattle.std.proofs.lemmas.Result.{IfOk-weaker}
use Rattle.std.specs.Prelude.{IsTrue}
use Rattle.core_order.specs.Checks.{AreUsedInTime, IsChecked}
use Rattle.core_order.proofs.Using.{checked_by}
use Rattle.core_order.proofs.check.is_checked.Goals as goal

pub returns : goal.returns
returns c =
    let rows = c.args.rows.now in
    let order = c.args.proposal.now.order.items in
    let ranks = c.args.proposal.now.ranks.items in
    IfOk-weaker c.are_used_in_time.result (λ answer. IsTrue answer → AreUsedInTime c.as_slice-order.result.now c.as_slice.result.now)
    (λ answer. IsTrue answer → IsChecked rows order ranks)
    (λ answer h t. checked_by rows order c.as_slice-order.result.now ranks c.as_slice-ranks.result.now c.in_ok-users.users.items c.as_slice.result.now
    c.as_slice-order.ensures.value c.as_slice-ranks.ensures.value c.as_slice.ensures.value (c.if-not-are_listed.ensures refl) (c.if-not-is_whole.ensures refl)
    (c.if-not-are_behind.ensures refl) c.in_ok-users.ensures (h t))
    c.are_used_in_time.ensures
