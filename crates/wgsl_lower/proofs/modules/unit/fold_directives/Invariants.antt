use Rattle.std.proofs.Common.{◌≡◌, length}
use Rattle.wgsl_lower.proofs.modules.unit.fold_directives.Given as goal

abbrev pub invariant-loop-i : goal.invariant-loop-i
invariant-loop-i l = length l.directives ≡ length l.initial.directives
