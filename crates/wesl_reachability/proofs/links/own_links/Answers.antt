use Rattle.std.proofs.Common.{sym, subst, ◌+◌}
use Rattle.wesl_reachability.specs.Onward.{AreAlone}
use Rattle.wesl_reachability.proofs.Onward.{alone_more}
use Rattle.wesl_reachability.proofs.links.own_links.Goals as goal

pub loop-item-preserved : goal.loop-item-preserved
loop-item-preserved c = subst (AreAlone c.args.«module» (c.loop-item.item + 1)) (sym c.in_ok-push.ensures.items) (alone_more c.args.«module» c.loop-item.item c.loop-item.row.items c.loop-item.invariant)
