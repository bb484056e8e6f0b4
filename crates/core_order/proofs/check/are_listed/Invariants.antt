use Rattle.std.proofs.Common.{◌≡◌, ℕ, ◌+◌, ◌<◌}
use Rattle.std.specs.Prelude.{slice_index}
use Rattle.core_order.specs.Checks.{IsValue}
use Rattle.core_order.proofs.check.are_listed.Given as goal

abbrev pub invariant-loop-place : goal.invariant-loop-place
invariant-loop-place l = record {
  values : (k : ℕ) → k < l.place → IsValue l.rows (slice_index l.order k);
  ranked : (k : ℕ) → k < l.place → slice_index l.ranks (slice_index l.order k) ≡ k + 1;
}
