use Rattle.std.proofs.Common.{refl, subst}
use Rattle.std.specs.Prelude.{IfSome, slice_index}
use Rattle.std.proofs.lemmas.Option.{slice_get_read}
use Rattle.core_order.specs.Checks.{Uses, Marks}
use Rattle.core_order.proofs.Using.{users_more}
use Rattle.core_order.proofs.check.mark_all.Goals as goal

pub loop-position-preserved : goal.loop-position-preserved
loop-position-preserved c =
    let rows = c.args.rows.now in
    let order = c.args.proposal.now.order.items in
    let position = slice_index c.args.last_first.now c.loop-position.position-index in
    let row = c.in-Some.row.now in
    let old = c.loop-position.users in
    let found = c.in-Some.ensures.lookup.3 in
    let stands = slice_get_read rows _ position row refl found.0 (found.1 row) in
    users_more rows order old c.mark.new.users position row c.user_at-user.result stands c.loop-position.invariant
    (λ u e. subst (λ o. IfSome o (Uses order old position)) e c.user_at-user.ensures)
    (subst (λ ps. Marks ps c.user_at-user.result old c.mark.new.users) c.as_slice.ensures c.mark.ensures)
