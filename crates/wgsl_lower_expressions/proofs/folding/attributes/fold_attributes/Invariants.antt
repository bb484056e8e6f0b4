use Rattle.std.proofs.Common.{◌≡◌, length}
use Rattle.wgsl_lower_expressions.proofs.folding.attributes.fold_attributes.Given as goal

abbrev pub invariant-loop-i : goal.invariant-loop-i
invariant-loop-i l = length l.attributes ≡ length l.initial.attributes
