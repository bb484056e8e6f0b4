use Rattle.std.proofs.Common.{refl, subst}
use Rattle.wesl_reachability.specs.Cells.{Sets}
use Rattle.wesl_reachability.proofs.Held.{reached_first}
use Rattle.wesl_reachability.proofs.holding.Holding.reach.Goals as goal

pub returns-in_ok-push : goal.returns-in_ok-push
returns-in_ok-push c =
    reached_first c.args.spot c.args.self.now _ c.in_ok-push.ensures.items refl
    (subst (λ b. Sets c.args.self.now.reached.items c.args.spot.«module» c.args.spot.place c.set.new.rows.items b) c.if-set.true c.set.ensures)
