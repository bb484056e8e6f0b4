use Rattle.std.proofs.Common.{take}
use Rattle.wesl_reachability.specs.Holding.{ReachesAll}
use Rattle.wesl_reachability.proofs.holding.Holding.reach_all.Given as goal

abbrev pub invariant-loop-spot : goal.invariant-loop-spot
invariant-loop-spot l = ReachesAll (take l.spot-index l.spots) l.fn.self l.self
