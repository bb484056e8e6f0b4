use Rattle.std.proofs.Common.{◌+◌, ◌*◌, ◌∷◌, [], take, Ok}
use Rattle.std.specs.List.{flat_map}
use Rattle.std.specs.Fn.{CalledAt}
use Rattle.wesl_visit_children.specs.Turns.{CalledDeep}
use Rattle.wesl_visit.specs.Statements.{in_else_if, in_clause, statements_inside}
use Rattle.wesl_visit.proofs.meet.+meet.Given as goal

abbrev pub decreases-meet_statement : goal.decreases-meet_statement
decreases-meet_statement g l = 8 * goal.size-meet_statement g l

abbrev pub decreases-meet_node : goal.decreases-meet_node
decreases-meet_node g l = 8 * goal.size-meet_node g l + 1

abbrev pub decreases-meet_nodes : goal.decreases-meet_nodes
decreases-meet_nodes g l = 8 * goal.size-meet_nodes g l + 2

abbrev pub decreases-meet_part : goal.decreases-meet_part
decreases-meet_part g l = 8 * goal.size-meet_part g l + 2

abbrev pub decreases-meet_block : goal.decreases-meet_block
decreases-meet_block g l = 8 * goal.size-meet_block g l + 3

abbrev pub decreases-meet_else_if : goal.decreases-meet_else_if
decreases-meet_else_if g l = 8 * goal.size-meet_else_if g l + 4

abbrev pub decreases-meet_else_ifs : goal.decreases-meet_else_ifs
decreases-meet_else_ifs g l = 8 * goal.size-meet_else_ifs g l + 5

abbrev pub decreases-meet_else : goal.decreases-meet_else
decreases-meet_else g l = 8 * goal.size-meet_else g l + 4

abbrev pub decreases-meet_if : goal.decreases-meet_if
decreases-meet_if g l = 8 * goal.size-meet_if g l + 6

abbrev pub decreases-meet_clause : goal.decreases-meet_clause
decreases-meet_clause g l = 8 * goal.size-meet_clause g l + 4

abbrev pub decreases-meet_clauses : goal.decreases-meet_clauses
decreases-meet_clauses g l = 8 * goal.size-meet_clauses g l + 5

abbrev pub decreases-meet_switch : goal.decreases-meet_switch
decreases-meet_switch g l = 8 * goal.size-meet_switch g l + 6

abbrev pub decreases-meet_continuing : goal.decreases-meet_continuing
decreases-meet_continuing g l = 8 * goal.size-meet_continuing g l + 4

abbrev pub decreases-meet_loop : goal.decreases-meet_loop
decreases-meet_loop g l = 8 * goal.size-meet_loop g l + 6

abbrev pub decreases-meet_for : goal.decreases-meet_for
decreases-meet_for g l = 8 * goal.size-meet_for g l + 4

abbrev pub invariant-meet_nodes-loop-node : goal.invariant-meet_nodes-loop-node
invariant-meet_nodes-loop-node g l =
    goal.F-IsAlwaysCallable g l.f × CalledDeep statements_inside (CalledAt g.F.FnMut) l.initial.f (flat_map (λ n. n ∷ []) (take l.node-index l.nodes)) (Ok tt) l.f

abbrev pub invariant-meet_else_ifs-loop-clause : goal.invariant-meet_else_ifs-loop-clause
invariant-meet_else_ifs-loop-clause g l =
    goal.F-IsAlwaysCallable g l.f × CalledDeep statements_inside (CalledAt g.F.FnMut) l.initial.f (flat_map in_else_if (take l.clause-index l.clauses)) (Ok tt) l.f

abbrev pub invariant-meet_clauses-loop-clause : goal.invariant-meet_clauses-loop-clause
invariant-meet_clauses-loop-clause g l =
    goal.F-IsAlwaysCallable g l.f × CalledDeep statements_inside (CalledAt g.F.FnMut) l.initial.f (flat_map in_clause (take l.clause-index l.clauses)) (Ok tt) l.f
