use Rattle.std.proofs.Common.{◌≡◌, ◌+◌, ◌*◌, ◌++◌, ◌≤◌, ℕ, length, get_or, take, drop, map}
use Rattle.std.specs.Option.{option_map}
use Rattle.wgsl_path.specs.declared.span.Spanned.{Spanned}
use Rattle.wgsl_statements.specs.declared.statement.Statement.{Statement}
use Rattle.wgsl_statements.specs.declared.statement.ElseIfClauseOf.{ElseIfClauseOf}
use Rattle.wgsl_statements.specs.declared.statement.SwitchClauseOf.{SwitchClauseOf}
use Rattle.wgsl_statements.specs.View.{statement_tree}
use Rattle.wesl_cond.specs.Leaving.{statement_left, else_if_pair, switch_pair, pair_left}
use Rattle.wesl_cond.proofs.statements.settle.+settle.Given as goal

abbrev pub decreases-settle_statement : goal.decreases-settle_statement
decreases-settle_statement l = 8 * goal.size-settle_statement l

abbrev pub decreases-settle_node : goal.decreases-settle_node
decreases-settle_node l = 8 * goal.size-settle_node l + 1

abbrev pub decreases-settle_each : goal.decreases-settle_each
decreases-settle_each l = 8 * goal.size-settle_each l + 2

abbrev pub decreases-settle_part : goal.decreases-settle_part
decreases-settle_part l = 8 * goal.size-settle_part l + 2

abbrev pub decreases-settle_block : goal.decreases-settle_block
decreases-settle_block l = 8 * goal.size-settle_block l + 3

abbrev pub decreases-settle_else_if : goal.decreases-settle_else_if
decreases-settle_else_if l = 8 * goal.size-settle_else_if l + 4

abbrev pub decreases-settle_else_ifs : goal.decreases-settle_else_ifs
decreases-settle_else_ifs l = 8 * goal.size-settle_else_ifs l + 5

abbrev pub decreases-settle_else : goal.decreases-settle_else
decreases-settle_else l = 8 * goal.size-settle_else l + 4

abbrev pub decreases-settle_if : goal.decreases-settle_if
decreases-settle_if l = 8 * goal.size-settle_if l + 6

abbrev pub decreases-settle_clause : goal.decreases-settle_clause
decreases-settle_clause l = 8 * goal.size-settle_clause l + 4

abbrev pub decreases-settle_clauses : goal.decreases-settle_clauses
decreases-settle_clauses l = 8 * goal.size-settle_clauses l + 5

abbrev pub decreases-settle_switch : goal.decreases-settle_switch
decreases-settle_switch l = 8 * goal.size-settle_switch l + 6

abbrev pub decreases-settle_continuing : goal.decreases-settle_continuing
decreases-settle_continuing l = 8 * goal.size-settle_continuing l + 4

abbrev pub decreases-settle_loop : goal.decreases-settle_loop
decreases-settle_loop l = 8 * goal.size-settle_loop l + 6

abbrev pub decreases-settle_for : goal.decreases-settle_for
decreases-settle_for l = 8 * goal.size-settle_for l + 4

abbrev pub decreases-settle_while : goal.decreases-settle_while
decreases-settle_while l = 8 * goal.size-settle_while l + 4

abbrev pub invariant-settle_each-loop-i : goal.invariant-settle_each-loop-i
invariant-settle_each-loop-i l =
    (map (λ n. statement_tree n.node) l.nodes
    ≡ map (option_map (statement_left l.features)) (take l.i (map (λ n. statement_tree n.node) l.initial.nodes)) ++ drop l.i (map (λ n. statement_tree n.node) l.initial.nodes))
    × (length l.nodes ≡ length l.initial.nodes) × ((k : ℕ) (d : Spanned Statement) → l.i ≤ k → get_or l.nodes k d ≡ get_or l.initial.nodes k d)

abbrev pub invariant-settle_else_ifs-loop-i : goal.invariant-settle_else_ifs-loop-i
invariant-settle_else_ifs-loop-i l =
    (map else_if_pair l.clauses ≡ map (pair_left l.features) (take l.i (map else_if_pair l.initial.clauses)) ++ drop l.i (map else_if_pair l.initial.clauses))
    × (length l.clauses ≡ length l.initial.clauses) × ((k : ℕ) (d : ElseIfClauseOf Statement) → l.i ≤ k → get_or l.clauses k d ≡ get_or l.initial.clauses k d)

abbrev pub invariant-settle_clauses-loop-i : goal.invariant-settle_clauses-loop-i
invariant-settle_clauses-loop-i l =
    (map switch_pair l.clauses ≡ map (pair_left l.features) (take l.i (map switch_pair l.initial.clauses)) ++ drop l.i (map switch_pair l.initial.clauses))
    × (length l.clauses ≡ length l.initial.clauses) × ((k : ℕ) (d : SwitchClauseOf Statement) → l.i ≤ k → get_or l.clauses k d ≡ get_or l.initial.clauses k d)
