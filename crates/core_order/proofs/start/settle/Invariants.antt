use Rattle.core_order.specs.Progressing.{Settles}
use Rattle.core_order.proofs.start.settle.Given as goal

abbrev pub invariant-loop-position : goal.invariant-loop-position
invariant-loop-position l = Settles l.marks l.initial.settled l.settled
