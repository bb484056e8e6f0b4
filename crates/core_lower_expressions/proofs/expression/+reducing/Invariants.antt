use Rattle.std.proofs.Common.{◌≡◌, ◌+◌, ◌*◌, map, drop}
use Rattle.core_syntax.specs.Tree.{exps}
use Rattle.core_syntax.specs.View.{node_tree}
use Rattle.core_written.specs.Scopes.{scope_of}
use Rattle.core_lower_expressions.specs.Reduced as spec
use Rattle.core_lower_expressions.proofs.expression.+reducing.Given as goal

abbrev pub invariant-reduce_arguments-loop-node : goal.invariant-reduce_arguments-loop-node
invariant-reduce_arguments-loop-node l =
    spec.before_more (spec.reductions l.arguments) (spec.all_reduced (scope_of l.scope) (exps (map node_tree (drop l.node-index l.nodes))))
    ≡ spec.all_reduced (scope_of l.scope) (exps (map node_tree l.nodes))

abbrev pub decreases-reduce : goal.decreases-reduce
decreases-reduce l = 4 * goal.size-reduce l

abbrev pub decreases-reduce_binary : goal.decreases-reduce_binary
decreases-reduce_binary l = 4 * goal.size-reduce_binary l + 1

abbrev pub decreases-reduce_call : goal.decreases-reduce_call
decreases-reduce_call l = 4 * goal.size-reduce_call l + 3

abbrev pub decreases-reduce_arguments : goal.decreases-reduce_arguments
decreases-reduce_arguments l = 4 * goal.size-reduce_arguments l + 2
