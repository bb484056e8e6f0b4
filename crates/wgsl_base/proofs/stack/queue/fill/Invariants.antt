use Rattle.std.proofs.Common.{◌≡◌, [], length}
use Rattle.wgsl_base.specs.Queues.{flattened}
use Rattle.wgsl_base.proofs.stack.queue.fill.Given as goal

-- The pieces that were taken have no values.
abbrev pub invariant-loop-piece : goal.invariant-loop-piece
invariant-loop-piece g l = (l.front ≡ []) × (flattened l.rest ≡ flattened l.fn.rest)

abbrev pub decreases-loop-piece : goal.decreases-loop-piece
decreases-loop-piece g l = length l.rest
