use Rattle.std.proofs.Common.{sym, subst, ◌+◌}
use Rattle.wesl_reachability.specs.Joining.{AreEmpty}
use Rattle.wesl_reachability.proofs.Rows.{empty_more}
use Rattle.wesl_reachability.proofs.chains.no_steps.Goals as goal

pub loop-item-preserved : goal.loop-item-preserved
loop-item-preserved c = subst (AreEmpty (c.loop-item._item + 1)) (sym c.in_ok-push.ensures.items) (empty_more c.loop-item._item c.loop-item.row.items _ c.new-none.ensures.items c.loop-item.invariant)
