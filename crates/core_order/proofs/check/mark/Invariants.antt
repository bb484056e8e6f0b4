use Rattle.std.proofs.Common.{take}
use Rattle.core_order.specs.Checks.{Marks}
use Rattle.core_order.proofs.check.mark.Given as goal

abbrev pub invariant-loop-place : goal.invariant-loop-place
invariant-loop-place l = Marks (take l.place-index l.places) l.user l.initial.users l.users
