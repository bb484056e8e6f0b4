use Rattle.std.proofs.Common.{ℕ, ◌<◌, ◌≤◌, refl, arith}
use Rattle.std.specs.Prelude.{slice_index}
use Rattle.std.proofs.lemmas.Option.{slice_get_within}
use Rattle.core_validate.specs.Rings.{Leads}
use Rattle.core_order.specs.Checks.{IsValue}
use Rattle.core_order.proofs.Using.{up_to, value_row, led_here}
use Rattle.core_order.proofs.check.are_behind.Goals as goal

pub loop-position-preserved : goal.loop-position-preserved
loop-position-preserved c =
    let rows = c.args.rows.now in
    let ranks = c.args.ranks.now in
    let at = c.loop-position.position in
    let row = c.index-rows-position.result in
    let within = c.loop-position-test.true in
    let is = c.index-rows-position.is in
    record {
      any = λ i j h l. up_to (λ i. (j : ℕ) → Leads rows i j → slice_index ranks j ≤ slice_index ranks i) at
          (λ i h j l. c.loop-position.invariant.any i j h l)
          (λ j l. c.if-not-is_behind.ensures.any refl j (led_here rows at row within is j l)) i h j l;
      value = λ i j h l v. up_to (λ i. (j : ℕ) → Leads rows i j → IsValue rows i → slice_index ranks j < slice_index ranks i) at
          (λ i h j l v. c.loop-position.invariant.value i j h l v)
          (λ j l v. c.if-not-is_behind.ensures.value refl (value_row rows at row within is v) j (led_here rows at row within is j l)) i h j l v;
    }

pub returns : goal.returns
returns c = λ t. record {
  any = λ i j l. c.loop-position.invariant.any i j (omega (arith, slice_get_within c.args.rows.now i l.row l.stands, c.loop-position-test.false)) l;
  value = λ i j l v. c.loop-position.invariant.value i j (omega (arith, slice_get_within c.args.rows.now i l.row l.stands, c.loop-position-test.false)) l v;
}
