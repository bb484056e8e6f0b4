use Rattle.std.proofs.Common.{◌≡◌, length}
use Rattle.wgsl_lr_driver.specs.Gathering.{either}
use Rattle.wgsl_lr_driver.specs.Readings.{first_failed}
use Rattle.wgsl_lr_driver.proofs.answer.failure_on.Given as goal

-- What fails in what is left comes before what was found.
abbrev pub invariant-loop-value : goal.invariant-loop-value
invariant-loop-value g l = either (first_failed l.stack) l.failure ≡ first_failed l.fn.stack

abbrev pub decreases-loop-value : goal.decreases-loop-value
decreases-loop-value g l = length l.stack
