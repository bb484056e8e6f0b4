use Rattle.std.proofs.Common.{◌≡◌, length}
use Rattle.wgsl_lower.proofs.folding.simple.fold_selectors.Given as goal

abbrev pub invariant-loop-i : goal.invariant-loop-i
invariant-loop-i l = length l.selectors ≡ length l.initial.selectors
