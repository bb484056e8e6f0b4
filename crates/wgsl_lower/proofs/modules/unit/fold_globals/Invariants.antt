use Rattle.std.proofs.Common.{◌≡◌, length}
use Rattle.wgsl_lower.proofs.modules.unit.fold_globals.Given as goal

abbrev pub invariant-loop-i : goal.invariant-loop-i
invariant-loop-i l = length l.declarations ≡ length l.initial.declarations
