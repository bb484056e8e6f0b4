use Rattle.std.proofs.Common.{◌≡◌, ◌+◌, refl, rules}
use Rattle.std.specs.Prelude.{slice_index}
use Rattle.core_order.specs.Checks.{IsValue}
use Rattle.core_order.proofs.Using.{up_to}
use Rattle.core_order.proofs.check.are_listed.Goals as goal

pub loop-place-preserved : goal.loop-place-preserved
loop-place-preserved c =
    let rows = c.args.rows.now in
    let order = c.args.order.now in
    let ranks = c.args.ranks.now in
    record {
      values = up_to (λ k. IsValue rows (slice_index order k)) c.loop-place.place c.loop-place.invariant.values (c.if-not-is_value.ensures refl);
      ranked = up_to (λ k. slice_index ranks (slice_index order k) ≡ k + 1) c.loop-place.place c.loop-place.invariant.ranked (search rules);
    }
