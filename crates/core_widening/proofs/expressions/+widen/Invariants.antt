use Rattle.std.proofs.Common.{◌≡◌, ◌+◌, ◌*◌, take, map}
use Rattle.wgsl_expressions.specs.View as whole
use Rattle.core_syntax.specs.View.{node_tree}
use Rattle.core_narrowing.specs.Widening.{widen_exp}
use Rattle.core_widening.proofs.expressions.+widen.Given as goal

abbrev pub decreases-widen_expression : goal.decreases-widen_expression
decreases-widen_expression l = 8 * goal.size-widen_expression l + 0

abbrev pub decreases-widen_node : goal.decreases-widen_node
decreases-widen_node l = 8 * goal.size-widen_node l + 1

abbrev pub decreases-widen_nodes : goal.decreases-widen_nodes
decreases-widen_nodes l = 8 * goal.size-widen_nodes l + 2

abbrev pub decreases-widen_arguments : goal.decreases-widen_arguments
decreases-widen_arguments l = 8 * goal.size-widen_arguments l + 3

abbrev pub decreases-widen_binary : goal.decreases-widen_binary
decreases-widen_binary l = 8 * goal.size-widen_binary l + 2

abbrev pub decreases-widen_type : goal.decreases-widen_type
decreases-widen_type l = 8 * goal.size-widen_type l + 4

abbrev pub decreases-widen_call : goal.decreases-widen_call
decreases-widen_call l = 8 * goal.size-widen_call l + 5

abbrev pub invariant-widen_nodes-loop-node : goal.invariant-widen_nodes-loop-node
invariant-widen_nodes-loop-node l = map whole.node_tree l.widened ≡ map (λ n. widen_exp (node_tree n)) (take l.node-index l.nodes)

abbrev pub invariant-widen_arguments-loop-argument : goal.invariant-widen_arguments-loop-argument
invariant-widen_arguments-loop-argument l = map (λ a. whole.node_tree a.expression) l.widened ≡ map (λ a. widen_exp (node_tree a.expression)) (take l.argument-index l.arguments)
