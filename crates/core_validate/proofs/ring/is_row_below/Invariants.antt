use Rattle.std.proofs.Common.{ℕ, take}
use Rattle.core_validate.specs.Searches.{Targets, IsBelow}
use Rattle.core_validate.proofs.ring.is_row_below.Given as goal

abbrev pub invariant-loop-place : goal.invariant-loop-place
invariant-loop-place l = (j : ℕ) → Targets (take l.place-index l.places) j → IsBelow l.ranks l.rank j
