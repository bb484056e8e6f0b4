use Rattle.wesl_mark.specs.declared.place.Kind.TheVariants.{Assertion}
use Rattle.wesl_reachability.proofs.Held.{no_kind, kind_step}
use Rattle.wesl_reachability.proofs.holding.Holding.reach_assertions.Goals as goal

pub loop-place-init : goal.loop-place-init
loop-place-init c = no_kind c.args.«module» c.args.places.now Assertion c.args.self.now

pub loop-place-preserved : goal.loop-place-preserved
loop-place-preserved c =
    kind_step c.args.«module» c.args.places.now Assertion c.loop-place.place c.args.self.now c.loop-place.self c.reach_if.new.self c.is_assertion-is_one.result c.is_assertion-is_one.ensures c.in_ok-reach_if.ensures c.loop-place.invariant
