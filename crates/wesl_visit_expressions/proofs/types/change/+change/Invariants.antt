use Rattle.std.proofs.Common.{◌≡◌, ◌+◌, ◌*◌, ◌≤◌, ℕ, length, get_or, map, take, Ok}
use Rattle.wesl_visit_expressions.specs.Types.{in_node, in_argument, around_node, around_argument, inside_by, around_by}
use Rattle.wesl_visit_children.specs.Turns.{ChangedDeep}
use Rattle.std.specs.Fn.{CalledAtMut}
use Rattle.std.specs.List.{flat_map}
use Rattle.wgsl_path.specs.declared.span.Spanned.{Spanned}
use Rattle.wgsl_expressions.specs.declared.expression.Expression.{Expression}
use Rattle.wgsl_expressions.specs.declared.expression.TemplateArgOf.{TemplateArgOf}
use Rattle.wesl_visit_expressions.proofs.types.change.+change.Given as goal

abbrev pub decreases-change_expression : goal.decreases-change_expression
decreases-change_expression g l = 8 * goal.size-change_expression g l + 0

abbrev pub decreases-change_type : goal.decreases-change_type
decreases-change_type g l = 8 * goal.size-change_type g l + 3

abbrev pub decreases-change_inside : goal.decreases-change_inside
decreases-change_inside g l = 8 * goal.size-change_inside g l + 2

abbrev pub decreases-change_arguments : goal.decreases-change_arguments
decreases-change_arguments g l = 8 * goal.size-change_arguments g l + 1

abbrev pub decreases-change_call : goal.decreases-change_call
decreases-change_call g l = 8 * goal.size-change_call g l + 4

abbrev pub decreases-change_nodes : goal.decreases-change_nodes
decreases-change_nodes g l = 8 * goal.size-change_nodes g l + 1

abbrev pub invariant-change_nodes-loop-i : goal.invariant-change_nodes-loop-i
invariant-change_nodes-loop-i g l =
    goal.F-IsAlwaysCallable g l.f
    × ChangedDeep (inside_by l.deep) (around_by l.deep) (CalledAtMut g.F.FnMut) l.initial.f (flat_map in_node (take l.i l.initial.nodes)) (Ok tt) l.f (flat_map in_node (take l.i l.nodes))
    × (map around_node l.nodes ≡ map around_node l.initial.nodes) × (length l.nodes ≡ length l.initial.nodes)
    × ((k : ℕ) (d : Spanned Expression) → l.i ≤ k → get_or l.nodes k d ≡ get_or l.initial.nodes k d)

abbrev pub invariant-change_arguments-loop-i : goal.invariant-change_arguments-loop-i
invariant-change_arguments-loop-i g l =
    goal.F-IsAlwaysCallable g l.f
    × ChangedDeep (inside_by l.deep) (around_by l.deep) (CalledAtMut g.F.FnMut) l.initial.f (flat_map in_argument (take l.i l.initial.arguments)) (Ok tt) l.f (flat_map in_argument (take l.i l.arguments))
    × (map around_argument l.arguments ≡ map around_argument l.initial.arguments) × (length l.arguments ≡ length l.initial.arguments)
    × ((k : ℕ) (d : TemplateArgOf Expression) → l.i ≤ k → get_or l.arguments k d ≡ get_or l.initial.arguments k d)
