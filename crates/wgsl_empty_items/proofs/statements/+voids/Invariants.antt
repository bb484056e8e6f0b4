use Rattle.std.proofs.Common.{◌≡◌, ◌+◌, ◌*◌, ◌++◌, take, drop, map}
use Rattle.wgsl_empty_items.specs.Statements.{with_node, with_else_if, with_clause, without_voids}
use Rattle.wgsl_empty_items.proofs.statements.+voids.Given as goal

abbrev pub decreases-remove_voids_in_statement : goal.decreases-remove_voids_in_statement
decreases-remove_voids_in_statement l = 8 * goal.size-remove_voids_in_statement l

abbrev pub decreases-remove_in_node : goal.decreases-remove_in_node
decreases-remove_in_node l = 8 * goal.size-remove_in_node l + 1

abbrev pub decreases-remove_inside : goal.decreases-remove_inside
decreases-remove_inside l = 8 * goal.size-remove_inside l + 2

abbrev pub decreases-remove_in_part : goal.decreases-remove_in_part
decreases-remove_in_part l = 8 * goal.size-remove_in_part l + 2

abbrev pub decreases-remove_voids_in_block : goal.decreases-remove_voids_in_block
decreases-remove_voids_in_block l = 8 * goal.size-remove_voids_in_block l + 3

abbrev pub decreases-remove_in_if_clause : goal.decreases-remove_in_if_clause
decreases-remove_in_if_clause l = 8 * goal.size-remove_in_if_clause l + 4

abbrev pub decreases-remove_in_else_if : goal.decreases-remove_in_else_if
decreases-remove_in_else_if l = 8 * goal.size-remove_in_else_if l + 4

abbrev pub decreases-remove_in_else_ifs : goal.decreases-remove_in_else_ifs
decreases-remove_in_else_ifs l = 8 * goal.size-remove_in_else_ifs l + 5

abbrev pub decreases-remove_in_else : goal.decreases-remove_in_else
decreases-remove_in_else l = 8 * goal.size-remove_in_else l + 4

abbrev pub decreases-remove_in_if : goal.decreases-remove_in_if
decreases-remove_in_if l = 8 * goal.size-remove_in_if l + 6

abbrev pub decreases-remove_in_clause : goal.decreases-remove_in_clause
decreases-remove_in_clause l = 8 * goal.size-remove_in_clause l + 4

abbrev pub decreases-remove_in_clauses : goal.decreases-remove_in_clauses
decreases-remove_in_clauses l = 8 * goal.size-remove_in_clauses l + 5

abbrev pub decreases-remove_in_switch : goal.decreases-remove_in_switch
decreases-remove_in_switch l = 8 * goal.size-remove_in_switch l + 6

abbrev pub decreases-remove_in_continuing : goal.decreases-remove_in_continuing
decreases-remove_in_continuing l = 8 * goal.size-remove_in_continuing l + 4

abbrev pub decreases-remove_in_loop : goal.decreases-remove_in_loop
decreases-remove_in_loop l = 8 * goal.size-remove_in_loop l + 6

abbrev pub decreases-remove_in_for : goal.decreases-remove_in_for
decreases-remove_in_for l = 8 * goal.size-remove_in_for l + 4

abbrev pub decreases-remove_in_while : goal.decreases-remove_in_while
decreases-remove_in_while l = 8 * goal.size-remove_in_while l + 4

abbrev pub invariant-remove_inside-loop-i : goal.invariant-remove_inside-loop-i
invariant-remove_inside-loop-i l = l.nodes ≡ map (with_node without_voids) (take l.i l.initial.nodes) ++ drop l.i l.initial.nodes

abbrev pub invariant-remove_in_else_ifs-loop-i : goal.invariant-remove_in_else_ifs-loop-i
invariant-remove_in_else_ifs-loop-i l = l.clauses ≡ map (with_else_if without_voids) (take l.i l.initial.clauses) ++ drop l.i l.initial.clauses

abbrev pub invariant-remove_in_clauses-loop-i : goal.invariant-remove_in_clauses-loop-i
invariant-remove_in_clauses-loop-i l = l.clauses ≡ map (with_clause without_voids) (take l.i l.initial.clauses) ++ drop l.i l.initial.clauses
