use Rattle.std.proofs.Common.{◌+◌, ◌*◌, ◌∷◌, [], take, Ok}
use Rattle.wesl_visit_expressions.specs.Expressions.{in_argument, expressions_inside}
use Rattle.wesl_visit_children.specs.Turns.{CalledDeep}
use Rattle.std.specs.Fn.{CalledAt}
use Rattle.std.specs.List.{flat_map}
use Rattle.wesl_visit_expressions.proofs.expressions.meet.+meet.Given as goal

abbrev pub decreases-meet_expression : goal.decreases-meet_expression
decreases-meet_expression g l = 8 * goal.size-meet_expression g l + 0

abbrev pub decreases-meet_node : goal.decreases-meet_node
decreases-meet_node g l = 8 * goal.size-meet_node g l + 2

abbrev pub decreases-meet_nodes : goal.decreases-meet_nodes
decreases-meet_nodes g l = 8 * goal.size-meet_nodes g l + 3

abbrev pub invariant-meet_nodes-loop-node : goal.invariant-meet_nodes-loop-node
invariant-meet_nodes-loop-node g l =
    goal.F-IsAlwaysCallable g l.f × CalledDeep expressions_inside (CalledAt g.F.FnMut) l.initial.f (flat_map (λ n. n ∷ []) (take l.node-index l.nodes)) (Ok tt) l.f

abbrev pub decreases-meet_indexing : goal.decreases-meet_indexing
decreases-meet_indexing g l = 8 * goal.size-meet_indexing g l + 3

abbrev pub decreases-meet_binary : goal.decreases-meet_binary
decreases-meet_binary g l = 8 * goal.size-meet_binary g l + 3

abbrev pub decreases-meet_call : goal.decreases-meet_call
decreases-meet_call g l = 8 * goal.size-meet_call g l + 6

abbrev pub decreases-meet_type : goal.decreases-meet_type
decreases-meet_type g l = 8 * goal.size-meet_type g l + 5

abbrev pub decreases-meet_arguments : goal.decreases-meet_arguments
decreases-meet_arguments g l = 8 * goal.size-meet_arguments g l + 4

abbrev pub invariant-meet_arguments-loop-argument : goal.invariant-meet_arguments-loop-argument
invariant-meet_arguments-loop-argument g l =
    goal.F-IsAlwaysCallable g l.f × CalledDeep expressions_inside (CalledAt g.F.FnMut) l.initial.f (flat_map in_argument (take l.argument-index l.arguments)) (Ok tt) l.f
