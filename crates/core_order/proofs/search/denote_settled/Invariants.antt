use Rattle.std.proofs.Common.{ℕ, take}
use Rattle.core_order.specs.Searches.{IsOn, Targets}
use Rattle.core_order.proofs.search.denote_settled.Given as goal

abbrev pub invariant-loop-place : goal.invariant-loop-place
invariant-loop-place l = (j : ℕ) → Targets (take l.place-index l.places) j → IsOn l.settled j
