use Rattle.std.proofs.Common.{◌≡◌, ◌+◌, ◌*◌, map, drop}
use Rattle.core_syntax.specs.Tree.{exps}
use Rattle.core_syntax.specs.View.{node_tree}
use Rattle.core_narrowing.specs.InCore as spec
use Rattle.core_narrowing.proofs.in_core.+in_core.Given as goal

abbrev pub invariant-are_expressions-loop-node : goal.invariant-are_expressions-loop-node
invariant-are_expressions-loop-node l = spec.are_expressions (exps (map node_tree (drop l.node-index l.nodes))) ≡ spec.are_expressions (exps (map node_tree l.nodes))

abbrev pub decreases-is_expression : goal.decreases-is_expression
decreases-is_expression l = 3 * goal.size-is_expression l

abbrev pub decreases-is_call : goal.decreases-is_call
decreases-is_call l = 3 * goal.size-is_call l + 2

abbrev pub decreases-are_expressions : goal.decreases-are_expressions
decreases-are_expressions l = 3 * goal.size-are_expressions l + 1
