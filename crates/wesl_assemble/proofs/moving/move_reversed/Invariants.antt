use Rattle.std.proofs.Common.{length}
use Rattle.wesl_assemble.proofs.moving.move_reversed.Given as goal

abbrev pub invariant-loop-item : goal.invariant-loop-item
invariant-loop-item g l = Unit

abbrev pub decreases-loop-item : goal.decreases-loop-item
decreases-loop-item g l = length l.from
