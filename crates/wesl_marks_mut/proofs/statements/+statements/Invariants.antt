use Rattle.std.proofs.Common.{◌≡◌, ◌+◌, ◌*◌, ◌≤◌, ℕ, length, get_or}
use Rattle.wgsl_path.specs.declared.span.Spanned.{Spanned}
use Rattle.wgsl_statements.specs.declared.statement.Statement.{Statement}
use Rattle.wgsl_statements.specs.declared.statement.ElseIfClauseOf.{ElseIfClauseOf}
use Rattle.wgsl_statements.specs.declared.statement.SwitchClauseOf.{SwitchClauseOf}
use Rattle.wesl_marks_mut.specs.WrittenStatements.{else_if_tree, else_if_written}
use Rattle.wesl_marks_mut.proofs.Each.{Wrote}
use Rattle.wesl_marks_mut.proofs.StatementLists.{maybe_written, tree_at, clause_written, clause_tree}
use Rattle.wesl_marks_mut.proofs.statements.+statements.Given as goal

abbrev pub decreases-write_statement : goal.decreases-write_statement
decreases-write_statement l = 8 * goal.size-write_statement l + 0

abbrev pub decreases-write_part : goal.decreases-write_part
decreases-write_part l = 8 * goal.size-write_part l + 1

abbrev pub decreases-write_statements : goal.decreases-write_statements
decreases-write_statements l = 8 * goal.size-write_statements l + 1

abbrev pub decreases-write_block : goal.decreases-write_block
decreases-write_block l = 8 * goal.size-write_block l + 2

abbrev pub decreases-write_else : goal.decreases-write_else
decreases-write_else l = 8 * goal.size-write_else l + 3

abbrev pub decreases-write_else_if : goal.decreases-write_else_if
decreases-write_else_if l = 8 * goal.size-write_else_if l + 3

abbrev pub decreases-write_clause : goal.decreases-write_clause
decreases-write_clause l = 8 * goal.size-write_clause l + 3

abbrev pub decreases-write_continuing : goal.decreases-write_continuing
decreases-write_continuing l = 8 * goal.size-write_continuing l + 3

abbrev pub decreases-write_else_ifs : goal.decreases-write_else_ifs
decreases-write_else_ifs l = 8 * goal.size-write_else_ifs l + 4

abbrev pub decreases-write_clauses : goal.decreases-write_clauses
decreases-write_clauses l = 8 * goal.size-write_clauses l + 4

abbrev pub decreases-write_if : goal.decreases-write_if
decreases-write_if l = 8 * goal.size-write_if l + 5

abbrev pub decreases-write_switch : goal.decreases-write_switch
decreases-write_switch l = 8 * goal.size-write_switch l + 5

abbrev pub decreases-write_loop : goal.decreases-write_loop
decreases-write_loop l = 8 * goal.size-write_loop l + 5

abbrev pub decreases-write_for : goal.decreases-write_for
decreases-write_for l = 8 * goal.size-write_for l + 5

abbrev pub decreases-write_while : goal.decreases-write_while
decreases-write_while l = 8 * goal.size-write_while l + 5

abbrev pub invariant-write_statements-loop-i : goal.invariant-write_statements-loop-i
invariant-write_statements-loop-i l =
    (length l.nodes ≡ length l.initial.nodes) × ((k : ℕ) (d : Spanned Statement) → l.i ≤ k → get_or l.nodes k d ≡ get_or l.initial.nodes k d)
    × Wrote maybe_written tree_at l.i l.initial.nodes l.nodes l.initial.script.rest.items l.script.rest.items

abbrev pub invariant-write_else_ifs-loop-i : goal.invariant-write_else_ifs-loop-i
invariant-write_else_ifs-loop-i l =
    (length l.clauses ≡ length l.initial.clauses) × ((k : ℕ) (d : ElseIfClauseOf Statement) → l.i ≤ k → get_or l.clauses k d ≡ get_or l.initial.clauses k d)
    × Wrote else_if_written else_if_tree l.i l.initial.clauses l.clauses l.initial.script.rest.items l.script.rest.items

abbrev pub invariant-write_clauses-loop-i : goal.invariant-write_clauses-loop-i
invariant-write_clauses-loop-i l =
    (length l.clauses ≡ length l.initial.clauses) × ((k : ℕ) (d : SwitchClauseOf Statement) → l.i ≤ k → get_or l.clauses k d ≡ get_or l.initial.clauses k d)
    × Wrote clause_written clause_tree l.i l.initial.clauses l.clauses l.initial.script.rest.items l.script.rest.items
