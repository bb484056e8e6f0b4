use Rattle.std.proofs.Common.{ℕ, ◌<◌, take}
use Rattle.std.specs.Prelude.{slice_index}
use Rattle.core_order.specs.Searches.{Targets}
use Rattle.core_order.proofs.check.are_below.Given as goal

abbrev pub invariant-loop-place : goal.invariant-loop-place
invariant-loop-place l = (j : ℕ) → Targets (take l.place-index l.places) j → slice_index l.ranks j < l.rank
