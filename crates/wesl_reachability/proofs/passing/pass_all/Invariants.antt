use Rattle.std.proofs.Common.{drop}
use Rattle.wesl_reachability.specs.Passing.{PassesSome}
use Rattle.wesl_reachability.proofs.passing.pass_all.Given as goal

abbrev pub invariant-loop-at : goal.invariant-loop-at
invariant-loop-at l = PassesSome l.modules l.fn.work.items l.fn.holding l.fn.chains l.holding l.chains (drop l.at l.work.items)
