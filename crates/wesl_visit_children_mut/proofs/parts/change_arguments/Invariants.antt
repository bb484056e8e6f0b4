use Rattle.std.proofs.Common.{◌≡◌, ◌≤◌, ℕ, length, get_or, map, take, Ok}
use Rattle.std.specs.List.{flat_map}
use Rattle.wesl_visit_children.specs.Turns.{ChangedInTurn}
use Rattle.wgsl_path.specs.declared.span.Spanned.{Spanned}
use Rattle.wgsl_expressions.specs.declared.expression.Expression.{Expression}
use Rattle.wesl_visit_children.specs.Parts.{in_expression}
use Rattle.wesl_visit_children_mut.proofs.parts.change_arguments.Given as goal

abbrev pub invariant-loop-i : goal.invariant-loop-i
invariant-loop-i g l =
    g.W.WriteParts.ready l.w
    × ChangedInTurn g.W.WriteParts.at l.initial.w (flat_map in_expression (take l.i l.initial.arguments)) (Ok tt) l.w (flat_map in_expression (take l.i l.arguments))
    × (map g.W.WriteParts.rest.expression l.arguments ≡ map g.W.WriteParts.rest.expression l.initial.arguments) × (length l.arguments ≡ length l.initial.arguments)
    × ((k : ℕ) (d : Spanned Expression) → l.i ≤ k → get_or l.arguments k d ≡ get_or l.initial.arguments k d)
