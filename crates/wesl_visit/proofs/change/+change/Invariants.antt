use Rattle.std.proofs.Common.{◌≡◌, ◌+◌, ◌*◌, ◌≤◌, ◌∷◌, [], ℕ, length, get_or, map, take, Ok}
use Rattle.std.specs.List.{flat_map}
use Rattle.std.specs.Fn.{CalledAtMut}
use Rattle.wgsl_path.specs.declared.span.Spanned.{Spanned}
use Rattle.wgsl_statements.specs.declared.statement.Statement.{Statement}
use Rattle.wgsl_statements.specs.declared.statement.ElseIfClauseOf.{ElseIfClauseOf}
use Rattle.wgsl_statements.specs.declared.statement.SwitchClauseOf.{SwitchClauseOf}
use Rattle.wesl_visit_children.specs.Turns.{ChangedDeep}
use Rattle.wesl_visit.specs.Statements.{in_else_if, in_clause, around_node, around_else_if, around_clause, inside_by, around_by}
use Rattle.wesl_visit.proofs.change.+change.Given as goal

abbrev pub decreases-change_statement : goal.decreases-change_statement
decreases-change_statement g l = 8 * goal.size-change_statement g l

abbrev pub decreases-change_inside : goal.decreases-change_inside
decreases-change_inside g l = 8 * goal.size-change_inside g l + 1

abbrev pub decreases-change_node : goal.decreases-change_node
decreases-change_node g l = 8 * goal.size-change_node g l + 2

abbrev pub decreases-change_nodes : goal.decreases-change_nodes
decreases-change_nodes g l = 8 * goal.size-change_nodes g l + 3

abbrev pub decreases-change_part : goal.decreases-change_part
decreases-change_part g l = 8 * goal.size-change_part g l + 3

abbrev pub decreases-change_block : goal.decreases-change_block
decreases-change_block g l = 8 * goal.size-change_block g l + 4

abbrev pub decreases-change_else_if : goal.decreases-change_else_if
decreases-change_else_if g l = 8 * goal.size-change_else_if g l + 5

abbrev pub decreases-change_else_ifs : goal.decreases-change_else_ifs
decreases-change_else_ifs g l = 8 * goal.size-change_else_ifs g l + 6

abbrev pub decreases-change_else : goal.decreases-change_else
decreases-change_else g l = 8 * goal.size-change_else g l + 5

abbrev pub decreases-change_if : goal.decreases-change_if
decreases-change_if g l = 8 * goal.size-change_if g l + 7

abbrev pub decreases-change_clause : goal.decreases-change_clause
decreases-change_clause g l = 8 * goal.size-change_clause g l + 5

abbrev pub decreases-change_clauses : goal.decreases-change_clauses
decreases-change_clauses g l = 8 * goal.size-change_clauses g l + 6

abbrev pub decreases-change_switch : goal.decreases-change_switch
decreases-change_switch g l = 8 * goal.size-change_switch g l + 7

abbrev pub decreases-change_continuing : goal.decreases-change_continuing
decreases-change_continuing g l = 8 * goal.size-change_continuing g l + 5

abbrev pub decreases-change_loop : goal.decreases-change_loop
decreases-change_loop g l = 8 * goal.size-change_loop g l + 7

abbrev pub decreases-change_for : goal.decreases-change_for
decreases-change_for g l = 8 * goal.size-change_for g l + 5

abbrev pub invariant-change_nodes-loop-i : goal.invariant-change_nodes-loop-i
invariant-change_nodes-loop-i g l =
    goal.F-IsAlwaysCallable g l.f
    × ChangedDeep (inside_by l.deep) (around_by l.deep) (CalledAtMut g.F.FnMut) l.initial.f (flat_map (λ n. n ∷ []) (take l.i l.initial.nodes)) (Ok tt) l.f (flat_map (λ n. n ∷ []) (take l.i l.nodes))
    × (map around_node l.nodes ≡ map around_node l.initial.nodes) × (length l.nodes ≡ length l.initial.nodes)
    × ((k : ℕ) (d : Spanned Statement) → l.i ≤ k → get_or l.nodes k d ≡ get_or l.initial.nodes k d)

abbrev pub invariant-change_else_ifs-loop-i : goal.invariant-change_else_ifs-loop-i
invariant-change_else_ifs-loop-i g l =
    goal.F-IsAlwaysCallable g l.f
    × ChangedDeep (inside_by l.deep) (around_by l.deep) (CalledAtMut g.F.FnMut) l.initial.f (flat_map in_else_if (take l.i l.initial.clauses)) (Ok tt) l.f (flat_map in_else_if (take l.i l.clauses))
    × (map around_else_if l.clauses ≡ map around_else_if l.initial.clauses) × (length l.clauses ≡ length l.initial.clauses)
    × ((k : ℕ) (d : ElseIfClauseOf Statement) → l.i ≤ k → get_or l.clauses k d ≡ get_or l.initial.clauses k d)

abbrev pub invariant-change_clauses-loop-i : goal.invariant-change_clauses-loop-i
invariant-change_clauses-loop-i g l =
    goal.F-IsAlwaysCallable g l.f
    × ChangedDeep (inside_by l.deep) (around_by l.deep) (CalledAtMut g.F.FnMut) l.initial.f (flat_map in_clause (take l.i l.initial.clauses)) (Ok tt) l.f (flat_map in_clause (take l.i l.clauses))
    × (map around_clause l.clauses ≡ map around_clause l.initial.clauses) × (length l.clauses ≡ length l.initial.clauses)
    × ((k : ℕ) (d : SwitchClauseOf Statement) → l.i ≤ k → get_or l.clauses k d ≡ get_or l.initial.clauses k d)
