use Rattle.std.proofs.Common.{◌≡◌, ◌+◌, ◌*◌, ◌++◌, drop}
use Rattle.wesl_visit_expressions.specs.Types.{in_node}
use Rattle.wesl_visit_children.specs.Turns.{pointed}
use Rattle.std.specs.List.{flat_map}
use Rattle.wesl_visit_expressions.proofs.types.find.+find.Given as goal

abbrev pub decreases-find_expression : goal.decreases-find_expression
decreases-find_expression l = 4 * goal.size-find_expression l + 0

abbrev pub decreases-find_call : goal.decreases-find_call
decreases-find_call l = 4 * goal.size-find_call l + 2

abbrev pub decreases-find_nodes : goal.decreases-find_nodes
decreases-find_nodes l = 4 * goal.size-find_nodes l + 1

abbrev pub invariant-find_nodes-loop-node : goal.invariant-find_nodes-loop-node
invariant-find_nodes-loop-node l = pointed l.found.items ++ flat_map in_node (drop l.node-index l.nodes) ≡ pointed l.initial.found.items ++ flat_map in_node l.nodes
