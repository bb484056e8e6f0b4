use Rattle.std.proofs.Common.{◌≡◌, length}
use Rattle.wgsl_lower.proofs.modules.declarations.fold_struct.Given as goal

abbrev pub invariant-loop-i : goal.invariant-loop-i
invariant-loop-i l = length l.x.members ≡ length l.initial.x.members
