use Rattle.wesl_reachability.specs.Joining.{AreNew}
use Rattle.wesl_reachability.proofs.chains.new_states.Given as goal

abbrev pub invariant-loop-item : goal.invariant-loop-item
invariant-loop-item l = AreNew l._item l.row.items
