use Rattle.std.proofs.Common.{ℕ, ◌<◌}
use Rattle.std.specs.Prelude.{slice_index}
use Rattle.core_validate.specs.Rings.{Leads}
use Rattle.core_validate.specs.Searches.{IsBelow}
use Rattle.core_validate.proofs.ring.are_ranks.Given as goal

abbrev pub invariant-loop-at : goal.invariant-loop-at
invariant-loop-at l =
    (i j : ℕ) → i < l.at → Leads l.rows i j → 0 < slice_index l.ranks i → IsBelow l.ranks (slice_index l.ranks i) j
