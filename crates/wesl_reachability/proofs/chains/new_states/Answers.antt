use Rattle.std.proofs.Common.{sym, subst, ◌+◌}
use Rattle.wesl_reachability.specs.Joining.{AreNew}
use Rattle.wesl_reachability.proofs.Rows.{new_more}
use Rattle.wesl_reachability.proofs.chains.new_states.Goals as goal

pub loop-item-preserved : goal.loop-item-preserved
loop-item-preserved c = subst (AreNew (c.loop-item._item + 1)) (sym c.in_ok-push.ensures.items) (new_more c.loop-item._item c.loop-item.row.items c.loop-item.invariant)
