use Rattle.std.proofs.Common.{◌≡◌, ◌+◌, ◌*◌, ◌≤◌, ℕ, length, get_or}
use Rattle.wgsl_path.specs.declared.span.Spanned.{Spanned}
use Rattle.wgsl_expressions.specs.declared.expression.Expression.{Expression}
use Rattle.wgsl_expressions.specs.declared.expression.TemplateArgOf.{TemplateArgOf}
use Rattle.wgsl_lower_expressions.proofs.folding.attributes.+custom.Given as goal

abbrev pub decreases-fold_custom_parts : goal.decreases-fold_custom_parts
decreases-fold_custom_parts l = 8 * goal.size-fold_custom_parts l

abbrev pub decreases-fold_custom : goal.decreases-fold_custom
decreases-fold_custom l = 8 * goal.size-fold_custom l + 1

abbrev pub decreases-fold_custom_indexing : goal.decreases-fold_custom_indexing
decreases-fold_custom_indexing l = 8 * goal.size-fold_custom_indexing l + 2

abbrev pub decreases-fold_custom_binary : goal.decreases-fold_custom_binary
decreases-fold_custom_binary l = 8 * goal.size-fold_custom_binary l + 2

abbrev pub decreases-fold_customs : goal.decreases-fold_customs
decreases-fold_customs l = 8 * goal.size-fold_customs l + 2

abbrev pub decreases-fold_custom_template : goal.decreases-fold_custom_template
decreases-fold_custom_template l = 8 * goal.size-fold_custom_template l + 2

abbrev pub decreases-fold_custom_type : goal.decreases-fold_custom_type
decreases-fold_custom_type l = 8 * goal.size-fold_custom_type l + 3

abbrev pub decreases-fold_custom_call : goal.decreases-fold_custom_call
decreases-fold_custom_call l = 8 * goal.size-fold_custom_call l + 4

abbrev pub invariant-fold_customs-loop-i : goal.invariant-fold_customs-loop-i
invariant-fold_customs-loop-i l = (length l.nodes ≡ length l.initial.nodes) × ((k : ℕ) (d : Spanned Expression) → l.i ≤ k → get_or l.nodes k d ≡ get_or l.initial.nodes k d)

abbrev pub invariant-fold_custom_template-loop-i : goal.invariant-fold_custom_template-loop-i
invariant-fold_custom_template-loop-i l = (length l.arguments ≡ length l.initial.arguments) × ((k : ℕ) (d : TemplateArgOf Expression) → l.i ≤ k → get_or l.arguments k d ≡ get_or l.initial.arguments k d)
