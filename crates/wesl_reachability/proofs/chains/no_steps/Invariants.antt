use Rattle.wesl_reachability.specs.Joining.{AreEmpty}
use Rattle.wesl_reachability.proofs.chains.no_steps.Given as goal

abbrev pub invariant-loop-item : goal.invariant-loop-item
invariant-loop-item l = AreEmpty l._item l.row.items
