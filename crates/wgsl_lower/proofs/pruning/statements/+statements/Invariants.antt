use Rattle.std.proofs.Common.{◌≡◌, ◌+◌, ◌*◌, ◌≤◌, ℕ, length, get_or}
use Rattle.wgsl_path.specs.declared.span.Spanned.{Spanned}
use Rattle.wgsl_statements.specs.declared.statement.Statement.{Statement}
use Rattle.wgsl_statements.specs.declared.statement.ElseIfClauseOf.{ElseIfClauseOf}
use Rattle.wgsl_statements.specs.declared.statement.SwitchClauseOf.{SwitchClauseOf}
use Rattle.wgsl_lower.proofs.pruning.statements.+statements.Given as goal

abbrev pub decreases-prune_inside : goal.decreases-prune_inside
decreases-prune_inside l = 8 * goal.size-prune_inside l

abbrev pub decreases-prune_each : goal.decreases-prune_each
decreases-prune_each l = 8 * goal.size-prune_each l + 1

abbrev pub decreases-prune_part : goal.decreases-prune_part
decreases-prune_part l = 8 * goal.size-prune_part l + 1

abbrev pub decreases-prune_block : goal.decreases-prune_block
decreases-prune_block l = 8 * goal.size-prune_block l + 2

abbrev pub decreases-prune_clauses : goal.decreases-prune_clauses
decreases-prune_clauses l = 8 * goal.size-prune_clauses l + 4

abbrev pub decreases-prune_switch : goal.decreases-prune_switch
decreases-prune_switch l = 8 * goal.size-prune_switch l + 4

abbrev pub decreases-prune_loop : goal.decreases-prune_loop
decreases-prune_loop l = 8 * goal.size-prune_loop l + 4

abbrev pub decreases-prune_for : goal.decreases-prune_for
decreases-prune_for l = 8 * goal.size-prune_for l + 4

abbrev pub invariant-prune_each-loop-i : goal.invariant-prune_each-loop-i
invariant-prune_each-loop-i l = (length l.nodes ≡ length l.initial.nodes) × ((k : ℕ) (d : Spanned Statement) → l.i ≤ k → get_or l.nodes k d ≡ get_or l.initial.nodes k d)

abbrev pub invariant-prune_clauses-loop-i : goal.invariant-prune_clauses-loop-i
invariant-prune_clauses-loop-i l = (l.x.else_clause ≡ l.initial.x.else_clause) × (length l.x.else_if_clauses ≡ length l.initial.x.else_if_clauses) × ((k : ℕ) (d : ElseIfClauseOf Statement) → l.i ≤ k → get_or l.x.else_if_clauses k d ≡ get_or l.initial.x.else_if_clauses k d)

abbrev pub invariant-prune_switch-loop-i : goal.invariant-prune_switch-loop-i
invariant-prune_switch-loop-i l = (length l.x.clauses ≡ length l.initial.x.clauses) × ((k : ℕ) (d : SwitchClauseOf Statement) → l.i ≤ k → get_or l.x.clauses k d ≡ get_or l.initial.x.clauses k d)
