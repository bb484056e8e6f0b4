use Rattle.std.proofs.Common.{◌≡◌, ◌+◌, ◌*◌, drop, map, filter_map}
use Rattle.wgsl_statements.specs.View.{statement_tree, block_tree, clauses_layer}
use Rattle.wesl_conditions.specs.Seen.{list_fault}
use Rattle.wesl_conditions.specs.Walks.{checked}
use Rattle.wesl_conditions.specs.Faults.{block_fault, clauses_fault}
use Rattle.wesl_cond.specs.Passing.{see_node, first_of}
use Rattle.wesl_cond.proofs.statements.check.+check.Given as goal

abbrev pub decreases-check_statement : goal.decreases-check_statement
decreases-check_statement l = 8 * goal.size-check_statement l

abbrev pub decreases-check_node : goal.decreases-check_node
decreases-check_node l = 8 * goal.size-check_node l + 2

abbrev pub decreases-enter : goal.decreases-enter
decreases-enter l = 8 * goal.size-enter l + 1

abbrev pub decreases-check_part : goal.decreases-check_part
decreases-check_part l = 8 * goal.size-check_part l + 2

abbrev pub decreases-check_block : goal.decreases-check_block
decreases-check_block l = 8 * goal.size-check_block l + 3

abbrev pub decreases-check_else_ifs : goal.decreases-check_else_ifs
decreases-check_else_ifs l = 8 * goal.size-check_else_ifs l + 5

abbrev pub decreases-check_else : goal.decreases-check_else
decreases-check_else l = 8 * goal.size-check_else l + 4

abbrev pub decreases-check_if : goal.decreases-check_if
decreases-check_if l = 8 * goal.size-check_if l + 6

abbrev pub decreases-check_clauses : goal.decreases-check_clauses
decreases-check_clauses l = 8 * goal.size-check_clauses l + 5

abbrev pub decreases-check_continuing : goal.decreases-check_continuing
decreases-check_continuing l = 8 * goal.size-check_continuing l + 4

abbrev pub decreases-check_loop : goal.decreases-check_loop
decreases-check_loop l = 8 * goal.size-check_loop l + 6

abbrev pub decreases-check_for : goal.decreases-check_for
decreases-check_for l = 8 * goal.size-check_for l + 4

abbrev pub invariant-check_block-loop-node : goal.invariant-check_block-loop-node
invariant-check_block-loop-node l =
    checked l.features l.check.chain l.check.inside (filter_map (see_node l.features) (drop l.node-index l.node-items))
    ≡ list_fault l.features (filter_map (see_node l.features) l.node-items)

abbrev pub invariant-check_else_ifs-loop-clause : goal.invariant-check_else_ifs-loop-clause
invariant-check_else_ifs-loop-clause l =
    first_of (map (λ c. block_fault l.features (block_tree c.body)) (drop l.clause-index l.clause-items))
    ≡ first_of (map (λ c. block_fault l.features (block_tree c.body)) l.clause-items)

abbrev pub invariant-check_clauses-loop-clause : goal.invariant-check_clauses-loop-clause
invariant-check_clauses-loop-clause l =
    clauses_fault l.features (clauses_layer statement_tree (drop l.clause-index l.clause-items)) ≡ clauses_fault l.features (clauses_layer statement_tree l.clause-items)
