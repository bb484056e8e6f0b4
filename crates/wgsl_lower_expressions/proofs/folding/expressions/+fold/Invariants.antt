use Rattle.std.proofs.Common.{◌≡◌, ◌+◌, ◌*◌, ◌≤◌, ℕ, length, get_or}
use Rattle.wgsl_path.specs.declared.span.Spanned.{Spanned}
use Rattle.wgsl_expressions.specs.declared.expression.Expression.{Expression}
use Rattle.wgsl_lower_expressions.proofs.folding.expressions.+fold.Given as goal

abbrev pub decreases-fold_parts : goal.decreases-fold_parts
decreases-fold_parts l = 8 * goal.size-fold_parts l

abbrev pub decreases-fold_open : goal.decreases-fold_open
decreases-fold_open l = 8 * goal.size-fold_open l + 1

abbrev pub decreases-fold_known : goal.decreases-fold_known
decreases-fold_known l = 8 * goal.size-fold_known l + 2

abbrev pub decreases-fold_converted : goal.decreases-fold_converted
decreases-fold_converted l = 8 * goal.size-fold_converted l + 2

abbrev pub decreases-fold_second : goal.decreases-fold_second
decreases-fold_second l = 8 * goal.size-fold_second l + 3

abbrev pub decreases-fold_argument : goal.decreases-fold_argument
decreases-fold_argument l = 8 * goal.size-fold_argument l + 3

abbrev pub decreases-fold_indexing : goal.decreases-fold_indexing
decreases-fold_indexing l = 8 * goal.size-fold_indexing l + 4

abbrev pub decreases-fold_binary : goal.decreases-fold_binary
decreases-fold_binary l = 8 * goal.size-fold_binary l + 4

abbrev pub decreases-fold_arguments : goal.decreases-fold_arguments
decreases-fold_arguments l = 8 * goal.size-fold_arguments l + 4

abbrev pub decreases-fold_known_call : goal.decreases-fold_known_call
decreases-fold_known_call l = 8 * goal.size-fold_known_call l + 5

abbrev pub invariant-fold_arguments-loop-i : goal.invariant-fold_arguments-loop-i
invariant-fold_arguments-loop-i l = (length l.arguments ≡ length l.initial.arguments) × ((k : ℕ) (d : Spanned Expression) → l.i ≤ k → get_or l.arguments k d ≡ get_or l.initial.arguments k d)
