use Rattle.std.proofs.Common.{◌≡◌, ◌+◌, ◌*◌, take}
use Rattle.core_syntax.proofs.copy.+copy.Given as goal

abbrev pub decreases-copied : goal.decreases-copied
decreases-copied l = 8 * goal.size-copied l

abbrev pub decreases-copied_node : goal.decreases-copied_node
decreases-copied_node l = 8 * goal.size-copied_node l + 1

abbrev pub decreases-copied_nodes : goal.decreases-copied_nodes
decreases-copied_nodes l = 8 * goal.size-copied_nodes l + 2

abbrev pub decreases-copied_arguments : goal.decreases-copied_arguments
decreases-copied_arguments l = 8 * goal.size-copied_arguments l + 3

abbrev pub decreases-copied_binary : goal.decreases-copied_binary
decreases-copied_binary l = 8 * goal.size-copied_binary l + 2

abbrev pub decreases-copied_type : goal.decreases-copied_type
decreases-copied_type l = 8 * goal.size-copied_type l + 4

abbrev pub decreases-copied_call : goal.decreases-copied_call
decreases-copied_call l = 8 * goal.size-copied_call l + 5

abbrev pub invariant-copied_arguments-loop-argument : goal.invariant-copied_arguments-loop-argument
invariant-copied_arguments-loop-argument l = l.copies ≡ take l.argument-index l.arguments

abbrev pub invariant-copied_nodes-loop-node : goal.invariant-copied_nodes-loop-node
invariant-copied_nodes-loop-node l = l.copies ≡ take l.node-index l.nodes
