use Rattle.std.proofs.Common.{take, length}
use Rattle.wesl_cycles.specs.Searches.{IsMarked, Visits}
use Rattle.wesl_cycles.proofs.ring.visit.Given as goal

abbrev pub invariant-loop-position : goal.invariant-loop-position
invariant-loop-position l = record {
  marked : IsMarked l.seen l.reached.items;
  visited : Visits (take l.position-index l.row) l.start (length l.initial.seen) l.initial.reached.items l.reached.items;
}
