use Rattle.std.proofs.Common.{ℕ, ◌<◌, ◌≤◌}
use Rattle.std.specs.Prelude.{slice_index}
use Rattle.wesl_cycles.specs.Rings.{Leads}
use Rattle.wesl_cycles.proofs.ring.are_ranks.Given as goal

abbrev pub invariant-loop-at : goal.invariant-loop-at
invariant-loop-at l = (i j : ℕ) → i < l.at → Leads l.rows i j → slice_index l.ranks j ≤ slice_index l.ranks i
