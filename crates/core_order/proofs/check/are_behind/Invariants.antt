use Rattle.std.proofs.Common.{ℕ, ◌<◌, ◌≤◌}
use Rattle.std.specs.Prelude.{slice_index}
use Rattle.core_validate.specs.Rings.{Leads}
use Rattle.core_order.specs.Checks.{IsValue}
use Rattle.core_order.proofs.check.are_behind.Given as goal

abbrev pub invariant-loop-position : goal.invariant-loop-position
invariant-loop-position l = record {
  any : (i j : ℕ) → i < l.position → Leads l.rows i j → slice_index l.ranks j ≤ slice_index l.ranks i;
  value : (i j : ℕ) → i < l.position → Leads l.rows i j → IsValue l.rows i → slice_index l.ranks j < slice_index l.ranks i;
}
