use Rattle.std.proofs.Common.{ℕ, take, ◌<◌}
use Rattle.std.specs.Prelude.{slice_index}
use Rattle.std.specs.List.{Contains}
use Rattle.wesl_cycles.proofs.ring.is_row_below.Given as goal

abbrev pub invariant-loop-position : goal.invariant-loop-position
invariant-loop-position l = (j : ℕ) → Contains (take l.position-index l.row) j → slice_index l.ranks j < l.rank
