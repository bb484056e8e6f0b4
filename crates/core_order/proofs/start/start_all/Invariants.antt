use Rattle.std.proofs.Common.{take}
use Rattle.core_order.specs.Units.{values_from}
use Rattle.core_order.specs.Progressing.{view, none_begun, Keeps, StartsAll}
use Rattle.core_order.proofs.start.start_all.Given as goal

abbrev pub invariant-loop-position : goal.invariant-loop-position
invariant-loop-position l = record {
  kept : Keeps l.rows l.state;
  starts : StartsAll l.rows none_begun (values_from 0 (take l.position l.rows)) (view l.state);
}
