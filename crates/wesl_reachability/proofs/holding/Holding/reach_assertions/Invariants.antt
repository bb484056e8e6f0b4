use Rattle.wesl_mark.specs.declared.place.Kind.TheVariants.{Assertion}
use Rattle.wesl_reachability.specs.Holding.{ReachesKind}
use Rattle.wesl_reachability.proofs.holding.Holding.reach_assertions.Given as goal

abbrev pub invariant-loop-place : goal.invariant-loop-place
invariant-loop-place l = ReachesKind l.«module» l.places Assertion l.place l.fn.self l.self
