use Rattle.std.proofs.Common.{◌≡◌, ◌+◌, ◌*◌, ◌++◌, drop}
use Rattle.wesl_visit_children.specs.Listed.{parts}
use Rattle.std.specs.List.{flat_map}
use Rattle.wesl_visit_children.specs.Parts.{in_node, in_else_if, in_clause, parts_in_statement}
use Rattle.wesl_visit_children.proofs.find_statements.+find.Given as goal

abbrev pub decreases-find_statement : goal.decreases-find_statement
decreases-find_statement l = 8 * goal.size-find_statement l + 0

abbrev pub decreases-find_statements : goal.decreases-find_statements
decreases-find_statements l = 8 * goal.size-find_statements l + 1

abbrev pub invariant-find_statements-loop-node : goal.invariant-find_statements-loop-node
invariant-find_statements-loop-node l = parts l.found.items ++ flat_map (in_node parts_in_statement) (drop l.node-index l.nodes) ≡ parts l.initial.found.items ++ flat_map (in_node parts_in_statement) l.nodes

abbrev pub decreases-find_block : goal.decreases-find_block
decreases-find_block l = 8 * goal.size-find_block l + 2

abbrev pub decreases-find_if : goal.decreases-find_if
decreases-find_if l = 8 * goal.size-find_if l + 5

abbrev pub decreases-find_else_ifs : goal.decreases-find_else_ifs
decreases-find_else_ifs l = 8 * goal.size-find_else_ifs l + 4

abbrev pub invariant-find_else_ifs-loop-clause : goal.invariant-find_else_ifs-loop-clause
invariant-find_else_ifs-loop-clause l = parts l.found.items ++ flat_map (in_else_if parts_in_statement) (drop l.clause-index l.clauses) ≡ parts l.initial.found.items ++ flat_map (in_else_if parts_in_statement) l.clauses

abbrev pub decreases-find_else_if : goal.decreases-find_else_if
decreases-find_else_if l = 8 * goal.size-find_else_if l + 3

abbrev pub decreases-find_else : goal.decreases-find_else
decreases-find_else l = 8 * goal.size-find_else l + 3

abbrev pub decreases-find_switch : goal.decreases-find_switch
decreases-find_switch l = 8 * goal.size-find_switch l + 5

abbrev pub decreases-find_clauses : goal.decreases-find_clauses
decreases-find_clauses l = 8 * goal.size-find_clauses l + 4

abbrev pub invariant-find_clauses-loop-clause : goal.invariant-find_clauses-loop-clause
invariant-find_clauses-loop-clause l = parts l.found.items ++ flat_map (in_clause parts_in_statement) (drop l.clause-index l.clauses) ≡ parts l.initial.found.items ++ flat_map (in_clause parts_in_statement) l.clauses

abbrev pub decreases-find_clause : goal.decreases-find_clause
decreases-find_clause l = 8 * goal.size-find_clause l + 3

abbrev pub decreases-find_loop : goal.decreases-find_loop
decreases-find_loop l = 8 * goal.size-find_loop l + 5

abbrev pub decreases-find_optional_continuing : goal.decreases-find_optional_continuing
decreases-find_optional_continuing l = 8 * goal.size-find_optional_continuing l + 4

abbrev pub decreases-find_continuing : goal.decreases-find_continuing
decreases-find_continuing l = 8 * goal.size-find_continuing l + 3

abbrev pub decreases-find_for : goal.decreases-find_for
decreases-find_for l = 8 * goal.size-find_for l + 3

abbrev pub decreases-find_part : goal.decreases-find_part
decreases-find_part l = 8 * goal.size-find_part l + 1

abbrev pub decreases-find_while : goal.decreases-find_while
decreases-find_while l = 8 * goal.size-find_while l + 3
