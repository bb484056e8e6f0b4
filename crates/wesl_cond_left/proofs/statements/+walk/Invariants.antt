use Rattle.std.proofs.Common.{◌≡◌, ◌+◌, ◌*◌, drop, map}
use Rattle.wgsl_statements.specs.View.{statement_tree, statements_tree, block_tree, clauses_layer}
use Rattle.wesl_cond_left.specs.Open.{statements_open, block_open, clauses_open, one_of}
use Rattle.wesl_cond_left.proofs.statements.+walk.Given as goal

abbrev pub decreases-in_statement : goal.decreases-in_statement
decreases-in_statement l = 8 * goal.size-in_statement l

abbrev pub decreases-in_statements : goal.decreases-in_statements
decreases-in_statements l = 8 * goal.size-in_statements l + 2

abbrev pub decreases-in_block : goal.decreases-in_block
decreases-in_block l = 8 * goal.size-in_block l + 3

abbrev pub decreases-in_if : goal.decreases-in_if
decreases-in_if l = 8 * goal.size-in_if l + 7

abbrev pub decreases-in_elses : goal.decreases-in_elses
decreases-in_elses l = 8 * goal.size-in_elses l + 6

abbrev pub decreases-in_else_ifs : goal.decreases-in_else_ifs
decreases-in_else_ifs l = 8 * goal.size-in_else_ifs l + 5

abbrev pub decreases-in_else : goal.decreases-in_else
decreases-in_else l = 8 * goal.size-in_else l + 4

abbrev pub decreases-in_switch : goal.decreases-in_switch
decreases-in_switch l = 8 * goal.size-in_switch l + 6

abbrev pub decreases-in_clauses : goal.decreases-in_clauses
decreases-in_clauses l = 8 * goal.size-in_clauses l + 5

abbrev pub decreases-in_loop : goal.decreases-in_loop
decreases-in_loop l = 8 * goal.size-in_loop l + 6

abbrev pub decreases-in_continuing : goal.decreases-in_continuing
decreases-in_continuing l = 8 * goal.size-in_continuing l + 4

abbrev pub decreases-in_for : goal.decreases-in_for
decreases-in_for l = 8 * goal.size-in_for l + 4

abbrev pub decreases-in_part : goal.decreases-in_part
decreases-in_part l = 8 * goal.size-in_part l + 2

abbrev pub invariant-in_statements-loop-node : goal.invariant-in_statements-loop-node
invariant-in_statements-loop-node l = statements_open (statements_tree (drop l.node-index l.node-items)) ≡ statements_open (statements_tree l.node-items)

abbrev pub invariant-in_else_ifs-loop-clause : goal.invariant-in_else_ifs-loop-clause
invariant-in_else_ifs-loop-clause l = one_of (map (λ c. block_open (block_tree c.body)) (drop l.clause-index l.clause-items)) ≡ one_of (map (λ c. block_open (block_tree c.body)) l.clause-items)

abbrev pub invariant-in_clauses-loop-clause : goal.invariant-in_clauses-loop-clause
invariant-in_clauses-loop-clause l = clauses_open (clauses_layer statement_tree (drop l.clause-index l.clause-items)) ≡ clauses_open (clauses_layer statement_tree l.clause-items)
