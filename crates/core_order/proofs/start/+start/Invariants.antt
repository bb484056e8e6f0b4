use Rattle.core_order.specs.Progressing.{view, Keeps, StartsReached}
use Rattle.core_order.proofs.Starting.{remaining}
use Rattle.core_order.proofs.start.+start.Given as goal

abbrev pub decreases-start : goal.decreases-start
decreases-start l = remaining l.state.now.marks.items

abbrev pub invariant-loop-other : goal.invariant-loop-other
invariant-loop-other l = record {
  kept : Keeps l.rows l.state;
  reached : StartsReached l.rows l.position l.other (view l.initial.state) (view l.state);
}
