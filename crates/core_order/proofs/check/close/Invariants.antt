use Rattle.std.proofs.Common.{length}
use Rattle.core_order.specs.Checks.{Closes}
use Rattle.core_order.proofs.check.close.Given as goal

abbrev pub invariant-loop-position : goal.invariant-loop-position
invariant-loop-position l = Closes l.users l.last l.initial.unused.items l.unused.items

abbrev pub decreases-loop-position : goal.decreases-loop-position
decreases-loop-position l = length l.unused.items
