use Rattle.std.proofs.Common.{◌≤◌, length, drop}
use Rattle.wgsl_lr_driver.specs.Gathering.{Gathers}
use Rattle.wgsl_lr_driver.proofs.gather.gathered.Given as goal

-- The places from here on were done.
abbrev pub invariant-loop-at : goal.invariant-loop-at
invariant-loop-at g l = record {
  within : l.at ≤ length l.pattern;
  gathers : Gathers g.P.Absence.absent l.fn.count l.fn.stack (drop l.at l.pattern) l.left l.stack l.extent l.parts;
}

abbrev pub decreases-loop-at : goal.decreases-loop-at
decreases-loop-at g l = l.at
