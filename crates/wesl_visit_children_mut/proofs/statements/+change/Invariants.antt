use Rattle.std.proofs.Common.{◌≡◌, ◌+◌, ◌*◌, ◌≤◌, ℕ, length, get_or, map, take, Ok}
use Rattle.wesl_visit_children.specs.Turns.{ChangedInTurn}
use Rattle.std.specs.List.{flat_map}
use Rattle.wgsl_path.specs.declared.span.Spanned.{Spanned}
use Rattle.wesl_visit_children.specs.Parts.{in_node, in_else_if, in_clause, parts_in_statement}
use Rattle.wesl_visit_children.specs.Rest.{around_statement_node, around_else_if, around_clause, around_parts_in_statement}
use Rattle.wgsl_statements.specs.declared.statement.Statement.{Statement}
use Rattle.wgsl_statements.specs.declared.statement.ElseIfClauseOf.{ElseIfClauseOf}
use Rattle.wgsl_statements.specs.declared.statement.SwitchClauseOf.{SwitchClauseOf}
use Rattle.wesl_visit_children_mut.proofs.statements.+change.Given as goal

abbrev pub decreases-change_statement : goal.decreases-change_statement
decreases-change_statement g l = 8 * goal.size-change_statement g l + 0

abbrev pub decreases-change_statements : goal.decreases-change_statements
decreases-change_statements g l = 8 * goal.size-change_statements g l + 1

abbrev pub invariant-change_statements-loop-i : goal.invariant-change_statements-loop-i
invariant-change_statements-loop-i g l =
    g.W.WriteParts.ready l.w
    × ChangedInTurn g.W.WriteParts.at l.initial.w (flat_map (in_node parts_in_statement) (take l.i l.initial.nodes)) (Ok tt) l.w (flat_map (in_node parts_in_statement) (take l.i l.nodes))
    × (map (around_statement_node g.W.WriteParts.rest (around_parts_in_statement g.W.WriteParts.rest)) l.nodes ≡ map (around_statement_node g.W.WriteParts.rest (around_parts_in_statement g.W.WriteParts.rest)) l.initial.nodes) × (length l.nodes ≡ length l.initial.nodes)
    × ((k : ℕ) (d : Spanned Statement) → l.i ≤ k → get_or l.nodes k d ≡ get_or l.initial.nodes k d)

abbrev pub decreases-change_block : goal.decreases-change_block
decreases-change_block g l = 8 * goal.size-change_block g l + 2

abbrev pub decreases-change_if : goal.decreases-change_if
decreases-change_if g l = 8 * goal.size-change_if g l + 5

abbrev pub decreases-change_else_ifs : goal.decreases-change_else_ifs
decreases-change_else_ifs g l = 8 * goal.size-change_else_ifs g l + 4

abbrev pub invariant-change_else_ifs-loop-i : goal.invariant-change_else_ifs-loop-i
invariant-change_else_ifs-loop-i g l =
    g.W.WriteParts.ready l.w
    × ChangedInTurn g.W.WriteParts.at l.initial.w (flat_map (in_else_if parts_in_statement) (take l.i l.initial.clauses)) (Ok tt) l.w (flat_map (in_else_if parts_in_statement) (take l.i l.clauses))
    × (map (around_else_if g.W.WriteParts.rest (around_parts_in_statement g.W.WriteParts.rest)) l.clauses ≡ map (around_else_if g.W.WriteParts.rest (around_parts_in_statement g.W.WriteParts.rest)) l.initial.clauses) × (length l.clauses ≡ length l.initial.clauses)
    × ((k : ℕ) (d : ElseIfClauseOf Statement) → l.i ≤ k → get_or l.clauses k d ≡ get_or l.initial.clauses k d)

abbrev pub decreases-change_else_if : goal.decreases-change_else_if
decreases-change_else_if g l = 8 * goal.size-change_else_if g l + 3

abbrev pub decreases-change_else : goal.decreases-change_else
decreases-change_else g l = 8 * goal.size-change_else g l + 3

abbrev pub decreases-change_switch : goal.decreases-change_switch
decreases-change_switch g l = 8 * goal.size-change_switch g l + 5

abbrev pub decreases-change_clauses : goal.decreases-change_clauses
decreases-change_clauses g l = 8 * goal.size-change_clauses g l + 4

abbrev pub invariant-change_clauses-loop-i : goal.invariant-change_clauses-loop-i
invariant-change_clauses-loop-i g l =
    g.W.WriteParts.ready l.w
    × ChangedInTurn g.W.WriteParts.at l.initial.w (flat_map (in_clause parts_in_statement) (take l.i l.initial.clauses)) (Ok tt) l.w (flat_map (in_clause parts_in_statement) (take l.i l.clauses))
    × (map (around_clause g.W.WriteParts.rest (around_parts_in_statement g.W.WriteParts.rest)) l.clauses ≡ map (around_clause g.W.WriteParts.rest (around_parts_in_statement g.W.WriteParts.rest)) l.initial.clauses) × (length l.clauses ≡ length l.initial.clauses)
    × ((k : ℕ) (d : SwitchClauseOf Statement) → l.i ≤ k → get_or l.clauses k d ≡ get_or l.initial.clauses k d)

abbrev pub decreases-change_clause : goal.decreases-change_clause
decreases-change_clause g l = 8 * goal.size-change_clause g l + 3

abbrev pub decreases-change_loop : goal.decreases-change_loop
decreases-change_loop g l = 8 * goal.size-change_loop g l + 5

abbrev pub decreases-change_optional_continuing : goal.decreases-change_optional_continuing
decreases-change_optional_continuing g l = 8 * goal.size-change_optional_continuing g l + 4

abbrev pub decreases-change_continuing : goal.decreases-change_continuing
decreases-change_continuing g l = 8 * goal.size-change_continuing g l + 3

abbrev pub decreases-change_for : goal.decreases-change_for
decreases-change_for g l = 8 * goal.size-change_for g l + 3

abbrev pub decreases-change_part : goal.decreases-change_part
decreases-change_part g l = 8 * goal.size-change_part g l + 1

abbrev pub decreases-change_while : goal.decreases-change_while
decreases-change_while g l = 8 * goal.size-change_while g l + 3
