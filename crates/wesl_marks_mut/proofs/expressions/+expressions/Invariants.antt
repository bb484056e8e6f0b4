use Rattle.std.proofs.Common.{◌≡◌, ◌+◌, ◌*◌, ◌≤◌, ℕ, length, get_or}
use Rattle.wgsl_path.specs.declared.span.Spanned.{Spanned}
use Rattle.wgsl_expressions.specs.declared.expression.Expression.{Expression}
use Rattle.wgsl_expressions.specs.declared.expression.TemplateArgOf.{TemplateArgOf}
use Rattle.wgsl_expressions.specs.View.{node_tree}
use Rattle.wesl_marks_mut.specs.Written.{written}
use Rattle.wesl_marks_mut.proofs.Each.{Wrote}
use Rattle.wesl_marks_mut.proofs.expressions.+expressions.Given as goal

abbrev pub decreases-write_expression : goal.decreases-write_expression
decreases-write_expression l = 8 * goal.size-write_expression l + 0

abbrev pub decreases-write_expressions : goal.decreases-write_expressions
decreases-write_expressions l = 8 * goal.size-write_expressions l + 1

abbrev pub decreases-write_arguments : goal.decreases-write_arguments
decreases-write_arguments l = 8 * goal.size-write_arguments l + 1

abbrev pub decreases-write_type : goal.decreases-write_type
decreases-write_type l = 8 * goal.size-write_type l + 2

abbrev pub decreases-write_call : goal.decreases-write_call
decreases-write_call l = 8 * goal.size-write_call l + 3

abbrev pub decreases-write_parenthesized : goal.decreases-write_parenthesized
decreases-write_parenthesized l = 8 * goal.size-write_parenthesized l + 1

abbrev pub decreases-write_component : goal.decreases-write_component
decreases-write_component l = 8 * goal.size-write_component l + 1

abbrev pub decreases-write_indexing : goal.decreases-write_indexing
decreases-write_indexing l = 8 * goal.size-write_indexing l + 1

abbrev pub decreases-write_unary : goal.decreases-write_unary
decreases-write_unary l = 8 * goal.size-write_unary l + 1

abbrev pub decreases-write_binary : goal.decreases-write_binary
decreases-write_binary l = 8 * goal.size-write_binary l + 1

abbrev pub invariant-write_expressions-loop-i : goal.invariant-write_expressions-loop-i
invariant-write_expressions-loop-i l =
    (length l.nodes ≡ length l.initial.nodes) × ((k : ℕ) (d : Spanned Expression) → l.i ≤ k → get_or l.nodes k d ≡ get_or l.initial.nodes k d)
    × Wrote written node_tree l.i l.initial.nodes l.nodes l.initial.script.rest.items l.script.rest.items

abbrev pub invariant-write_arguments-loop-i : goal.invariant-write_arguments-loop-i
invariant-write_arguments-loop-i l =
    (length l.arguments ≡ length l.initial.arguments) × ((k : ℕ) (d : TemplateArgOf Expression) → l.i ≤ k → get_or l.arguments k d ≡ get_or l.initial.arguments k d)
    × Wrote written (λ a. node_tree a.expression) l.i l.initial.arguments l.arguments l.initial.script.rest.items l.script.rest.items
