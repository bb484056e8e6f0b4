use Rattle.wesl_reachability.specs.Onward.{AreAlone}
use Rattle.wesl_reachability.proofs.links.own_links.Given as goal

abbrev pub invariant-loop-item : goal.invariant-loop-item
invariant-loop-item l = AreAlone l.«module» l.item l.row.items
