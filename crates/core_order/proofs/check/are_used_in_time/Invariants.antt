use Rattle.std.proofs.Common.{ℕ, ◌⊎◌, ◌<◌}
use Rattle.std.specs.Prelude.{slice_index}
use Rattle.std.specs.List.{Contains}
use Rattle.core_order.specs.Checks.{IsUsedBy, AreOrdered}
use Rattle.core_order.proofs.check.are_used_in_time.Given as goal

abbrev pub invariant-loop-place : goal.invariant-loop-place
invariant-loop-place l = record {
  ordered : AreOrdered l.unused.items;
  covered : (i : ℕ) → i < l.place → IsUsedBy l.users l.place (slice_index l.order i) ⊎ Contains l.unused.items (slice_index l.order i);
  passed : (i j : ℕ) → i < j → j < l.place → slice_index l.order j < slice_index l.order i → IsUsedBy l.users j (slice_index l.order i);
}
