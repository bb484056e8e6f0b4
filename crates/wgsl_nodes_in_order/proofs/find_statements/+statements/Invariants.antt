use Rattle.std.proofs.Common.{◌≡◌, ◌+◌, ◌*◌, ◌++◌, drop}
use Rattle.wgsl_nodes_in_order.specs.Found.{nodes}
use Rattle.wgsl_statements.specs.View.{statement_tree, statements_tree, elses_layer, clauses_layer}
use Rattle.wgsl_nodes_in_order.specs.Nodes.{in_stms, in_elses, in_clauses}
use Rattle.wgsl_nodes_in_order.proofs.find_statements.+statements.Given as goal

abbrev pub decreases-find_inside_statement : goal.decreases-find_inside_statement
decreases-find_inside_statement l = 8 * goal.size-find_inside_statement l + 0

abbrev pub decreases-find_statement : goal.decreases-find_statement
decreases-find_statement l = 8 * goal.size-find_statement l + 1

abbrev pub decreases-find_statements : goal.decreases-find_statements
decreases-find_statements l = 8 * goal.size-find_statements l + 2

abbrev pub decreases-find_part : goal.decreases-find_part
decreases-find_part l = 8 * goal.size-find_part l + 2

abbrev pub decreases-find_block : goal.decreases-find_block
decreases-find_block l = 8 * goal.size-find_block l + 3

abbrev pub decreases-find_else : goal.decreases-find_else
decreases-find_else l = 8 * goal.size-find_else l + 4

abbrev pub decreases-find_else_if : goal.decreases-find_else_if
decreases-find_else_if l = 8 * goal.size-find_else_if l + 4

abbrev pub decreases-find_clause : goal.decreases-find_clause
decreases-find_clause l = 8 * goal.size-find_clause l + 4

abbrev pub decreases-find_continuing : goal.decreases-find_continuing
decreases-find_continuing l = 8 * goal.size-find_continuing l + 4

abbrev pub decreases-find_optional_continuing : goal.decreases-find_optional_continuing
decreases-find_optional_continuing l = 8 * goal.size-find_optional_continuing l + 5

abbrev pub decreases-find_elses : goal.decreases-find_elses
decreases-find_elses l = 8 * goal.size-find_elses l + 5

abbrev pub decreases-find_clauses : goal.decreases-find_clauses
decreases-find_clauses l = 8 * goal.size-find_clauses l + 5

abbrev pub decreases-find_if : goal.decreases-find_if
decreases-find_if l = 8 * goal.size-find_if l + 6

abbrev pub decreases-find_switch : goal.decreases-find_switch
decreases-find_switch l = 8 * goal.size-find_switch l + 6

abbrev pub decreases-find_loop : goal.decreases-find_loop
decreases-find_loop l = 8 * goal.size-find_loop l + 6

abbrev pub decreases-find_for : goal.decreases-find_for
decreases-find_for l = 8 * goal.size-find_for l + 6

abbrev pub decreases-find_while : goal.decreases-find_while
decreases-find_while l = 8 * goal.size-find_while l + 6

abbrev pub invariant-find_statements-loop-statement : goal.invariant-find_statements-loop-statement
invariant-find_statements-loop-statement l = nodes l.found.items ++ in_stms (statements_tree (drop l.statement-index l.statements)) ≡ nodes l.initial.found.items ++ in_stms (statements_tree l.statements)

abbrev pub invariant-find_elses-loop-clause : goal.invariant-find_elses-loop-clause
invariant-find_elses-loop-clause l = nodes l.found.items ++ in_elses (elses_layer statement_tree (drop l.clause-index l.x.else_if_clauses) l.x.else_clause) ≡ nodes l.initial.found.items ++ in_elses (elses_layer statement_tree l.x.else_if_clauses l.x.else_clause)

abbrev pub invariant-find_clauses-loop-clause : goal.invariant-find_clauses-loop-clause
invariant-find_clauses-loop-clause l = nodes l.found.items ++ in_clauses (clauses_layer statement_tree (drop l.clause-index l.clauses)) ≡ nodes l.initial.found.items ++ in_clauses (clauses_layer statement_tree l.clauses)
