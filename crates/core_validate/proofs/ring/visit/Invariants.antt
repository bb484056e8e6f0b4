use Rattle.std.proofs.Common.{take, length}
use Rattle.core_validate.specs.Searches.{IsMarked, Visits}
use Rattle.core_validate.proofs.ring.visit.Given as goal

abbrev pub invariant-loop-place : goal.invariant-loop-place
invariant-loop-place l = record {
  marked : IsMarked l.seen l.reached.items;
  visited : Visits (take l.place-index l.places) l.start (length l.initial.seen) l.initial.reached.items l.reached.items;
}
