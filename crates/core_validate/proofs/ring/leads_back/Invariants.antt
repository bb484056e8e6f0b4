use Rattle.std.proofs.Common.{◌≡◌, length}
use Rattle.core_validate.specs.Searches.{IsMarked, Searches}
use Rattle.core_validate.proofs.ring.leads_back.Given as goal

abbrev pub invariant-loop-at : goal.invariant-loop-at
invariant-loop-at l = record {
  sized : length l.seen ≡ length l.rows;
  marked : IsMarked l.seen l.reached.items;
  searched : Searches l.rows l.start l.at l.reached.items;
}
