use Rattle.std.proofs.Common.{◌≡◌, ◌+◌, ◌*◌, ◌++◌, drop, map}
use Rattle.std.specs.List.{flat_map}
use Rattle.wgsl_expressions.specs.Tree as exp
use Rattle.wgsl_expressions.specs.View as whole
use Rattle.core_syntax.specs.View.{node_tree}
use Rattle.core_narrowing.specs.Narrowing.{narrow_exps, ahead}
use Rattle.core_narrowing.specs.Places as part
use Rattle.core_narrowing.specs.ModulePlaces as places
use Rattle.core_narrowing.proofs.expressions.+narrow.Given as goal

abbrev pub decreases-narrow_expression : goal.decreases-narrow_expression
decreases-narrow_expression l = 8 * goal.size-narrow_expression l + 0

abbrev pub decreases-narrow_node : goal.decreases-narrow_node
decreases-narrow_node l = 8 * goal.size-narrow_node l + 1

abbrev pub decreases-narrow_nodes : goal.decreases-narrow_nodes
decreases-narrow_nodes l = 8 * goal.size-narrow_nodes l + 2

abbrev pub decreases-narrow_arguments : goal.decreases-narrow_arguments
decreases-narrow_arguments l = 8 * goal.size-narrow_arguments l + 3

abbrev pub decreases-narrow_binary : goal.decreases-narrow_binary
decreases-narrow_binary l = 8 * goal.size-narrow_binary l + 2

abbrev pub decreases-narrow_type : goal.decreases-narrow_type
decreases-narrow_type l = 8 * goal.size-narrow_type l + 4

abbrev pub decreases-narrow_call : goal.decreases-narrow_call
decreases-narrow_call l = 8 * goal.size-narrow_call l + 5

abbrev pub invariant-narrow_nodes-loop-node : goal.invariant-narrow_nodes-loop-node
invariant-narrow_nodes-loop-node l = (ahead (map node_tree l.narrowed) (narrow_exps (exp.exps (map whole.node_tree (drop l.node-index l.nodes)))) ≡ narrow_exps (exp.exps (map whole.node_tree l.nodes))) × (flat_map part.in_node l.narrowed ++ flat_map places.in_node (drop l.node-index l.nodes) ≡ flat_map places.in_node l.nodes)

abbrev pub invariant-narrow_arguments-loop-argument : goal.invariant-narrow_arguments-loop-argument
invariant-narrow_arguments-loop-argument l = (ahead (map (λ a. node_tree a.expression) l.narrowed) (narrow_exps (exp.exps (map (λ a. whole.node_tree a.expression) (drop l.argument-index l.arguments)))) ≡ narrow_exps (exp.exps (map (λ a. whole.node_tree a.expression) l.arguments)))
    × (flat_map (part.in_argument part.in_expression) l.narrowed ++ flat_map (places.in_argument places.in_expression) (drop l.argument-index l.arguments) ≡ flat_map (places.in_argument places.in_expression) l.arguments)
