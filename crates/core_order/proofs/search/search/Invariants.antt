use Rattle.std.proofs.Common.{◌≡◌, length}
use Rattle.core_order.specs.Searches.{IsMarked, Searches}
use Rattle.core_order.proofs.search.search.Given as goal

abbrev pub invariant-loop-at : goal.invariant-loop-at
invariant-loop-at l = record {
  sized : length l.seen ≡ length l.rows;
  marked : IsMarked l.seen l.reached.items;
  searched : Searches l.rows l.start l.settled l.at l.reached.items;
}
