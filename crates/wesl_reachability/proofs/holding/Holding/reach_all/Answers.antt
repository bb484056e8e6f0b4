use Rattle.std.proofs.Common.{◌≡◌, sym, subst, ◌+◌, take, List}
use Rattle.std.proofs.lemmas.List.{take_more}
use Rattle.wesl_module_index.specs.declared.modules.DeclarationId.{DeclarationId}
use Rattle.wesl_reachability.specs.Holding.{ReachesAll}
use Rattle.wesl_reachability.proofs.Held.{none_reached, reached_more}
use Rattle.wesl_reachability.proofs.holding.Holding.reach_all.Goals as goal

pub loop-spot-init : goal.loop-spot-init
loop-spot-init c = none_reached c.args.self.now

pub loop-spot-preserved : goal.loop-spot-preserved
loop-spot-preserved c =
    let i = c.loop-spot.spot-index in
    subst (λ (l : List DeclarationId). ReachesAll l c.args.self.now c.reach.new.self)
    (sym (take_more c.args.spots.now i _ c.loop-spot-test.true))
    (reached_more (take i c.args.spots.now) _ c.args.self.now c.loop-spot.self c.reach.new.self c.loop-spot.invariant c.in_ok-reach.ensures)
