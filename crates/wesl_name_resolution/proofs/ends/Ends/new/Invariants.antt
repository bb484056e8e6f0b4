use Rattle.std.proofs.Common.{◌≡◌}
use Rattle.wesl_name_resolution.proofs.Rows.{Settles}
use Rattle.wesl_name_resolution.proofs.ends.Ends.new.Given as goal

abbrev pub invariant-loop-item : goal.invariant-loop-item
invariant-loop-item l = Settles l.modules l.ends.ends.items l.«module» l.item

abbrev pub invariant-loop-module : goal.invariant-loop-module
invariant-loop-module l = Settles l.modules l.ends.ends.items l.«module» 0
