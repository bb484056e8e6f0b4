use Rattle.wesl_mark.specs.declared.place.Kind.TheVariants.{Directive}
use Rattle.wesl_reachability.specs.Holding.{ReachesKind}
use Rattle.wesl_reachability.proofs.holding.Holding.reach_directives.Given as goal

abbrev pub invariant-loop-place : goal.invariant-loop-place
invariant-loop-place l = ReachesKind l.«module» l.places Directive l.place l.fn.self l.self
