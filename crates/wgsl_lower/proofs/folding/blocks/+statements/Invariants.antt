use Rattle.std.proofs.Common.{◌≡◌, ◌+◌, ◌*◌, ◌≤◌, ℕ, length, get_or}
use Rattle.wgsl_path.specs.declared.span.Spanned.{Spanned}
use Rattle.wgsl_statements.specs.declared.statement.Statement.{Statement}
use Rattle.wgsl_statements.specs.declared.statement.ElseIfClauseOf.{ElseIfClauseOf}
use Rattle.wgsl_statements.specs.declared.statement.SwitchClauseOf.{SwitchClauseOf}
use Rattle.wgsl_lower.proofs.folding.blocks.+statements.Given as goal

abbrev pub decreases-fold_inside : goal.decreases-fold_inside
decreases-fold_inside l = 8 * goal.size-fold_inside l

abbrev pub decreases-fold_statement : goal.decreases-fold_statement
decreases-fold_statement l = 8 * goal.size-fold_statement l + 1

abbrev pub decreases-fold_statements : goal.decreases-fold_statements
decreases-fold_statements l = 8 * goal.size-fold_statements l + 2

abbrev pub decreases-fold_part : goal.decreases-fold_part
decreases-fold_part l = 8 * goal.size-fold_part l + 2

abbrev pub decreases-fold_block : goal.decreases-fold_block
decreases-fold_block l = 8 * goal.size-fold_block l + 3

abbrev pub decreases-fold_continuing : goal.decreases-fold_continuing
decreases-fold_continuing l = 8 * goal.size-fold_continuing l + 4

abbrev pub decreases-fold_if : goal.decreases-fold_if
decreases-fold_if l = 8 * goal.size-fold_if l + 5

abbrev pub decreases-fold_switch : goal.decreases-fold_switch
decreases-fold_switch l = 8 * goal.size-fold_switch l + 5

abbrev pub decreases-fold_loop : goal.decreases-fold_loop
decreases-fold_loop l = 8 * goal.size-fold_loop l + 5

abbrev pub decreases-fold_for : goal.decreases-fold_for
decreases-fold_for l = 8 * goal.size-fold_for l + 5

abbrev pub decreases-fold_while : goal.decreases-fold_while
decreases-fold_while l = 8 * goal.size-fold_while l + 5

abbrev pub invariant-fold_statements-loop-i : goal.invariant-fold_statements-loop-i
invariant-fold_statements-loop-i l = (length l.nodes ≡ length l.initial.nodes) × ((k : ℕ) (d : Spanned Statement) → l.i ≤ k → get_or l.nodes k d ≡ get_or l.initial.nodes k d)

abbrev pub invariant-fold_if-loop-i : goal.invariant-fold_if-loop-i
invariant-fold_if-loop-i l = (l.x.else_clause ≡ l.initial.x.else_clause) × (length l.x.else_if_clauses ≡ length l.initial.x.else_if_clauses) × ((k : ℕ) (d : ElseIfClauseOf Statement) → l.i ≤ k → get_or l.x.else_if_clauses k d ≡ get_or l.initial.x.else_if_clauses k d)

abbrev pub invariant-fold_switch-loop-i : goal.invariant-fold_switch-loop-i
invariant-fold_switch-loop-i l = (length l.x.clauses ≡ length l.initial.x.clauses) × ((k : ℕ) (d : SwitchClauseOf Statement) → l.i ≤ k → get_or l.x.clauses k d ≡ get_or l.initial.x.clauses k d)
