use Rattle.std.proofs.Common.{sym, subst, ◌+◌}
use Rattle.wesl_reachability.specs.Starts.{AddsPlaces}
use Rattle.wesl_reachability.proofs.Added.{adds_none, adds_more}
use Rattle.wesl_reachability.proofs.starts.add_places.Goals as goal

pub loop-place-init : goal.loop-place-init
loop-place-init c = adds_none c.args.number c.args.spots.now.items

pub loop-place-preserved : goal.loop-place-preserved
loop-place-preserved c =
    subst (λ l. AddsPlaces c.args.number (c.loop-place.place + 1) c.args.spots.now.items l) (sym c.in_ok-push.ensures.items)
    (adds_more c.args.number c.loop-place.place c.args.spots.now.items c.loop-place.spots.items c.loop-place.invariant)
