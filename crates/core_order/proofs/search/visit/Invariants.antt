use Rattle.std.proofs.Common.{take, length}
use Rattle.core_order.specs.Searches.{IsMarked, Visits}
use Rattle.core_order.proofs.search.visit.Given as goal

abbrev pub invariant-loop-place : goal.invariant-loop-place
invariant-loop-place l = record {
  marked : IsMarked l.seen l.reached.items;
  visited : Visits (take l.place-index l.places) l.settled (length l.initial.seen) l.initial.reached.items l.reached.items;
}
