use Rattle.std.proofs.Common.{◌≡◌, ◌+◌, ◌*◌, ◌++◌, drop, map}
use Rattle.wgsl_nodes_in_order.specs.Found.{nodes}
use Rattle.wgsl_expressions.specs.Tree.{exps}
use Rattle.wgsl_expressions.specs.View.{node_tree}
use Rattle.wgsl_nodes_in_order.specs.Nodes.{in_exps}
use Rattle.wgsl_nodes_in_order.proofs.find.+expressions.Given as goal

abbrev pub decreases-find_inside : goal.decreases-find_inside
decreases-find_inside l = 8 * goal.size-find_inside l + 0

abbrev pub decreases-find_expression : goal.decreases-find_expression
decreases-find_expression l = 8 * goal.size-find_expression l + 1

abbrev pub decreases-find_indexing : goal.decreases-find_indexing
decreases-find_indexing l = 8 * goal.size-find_indexing l + 2

abbrev pub decreases-find_binary : goal.decreases-find_binary
decreases-find_binary l = 8 * goal.size-find_binary l + 2

abbrev pub decreases-find_expressions : goal.decreases-find_expressions
decreases-find_expressions l = 8 * goal.size-find_expressions l + 2

abbrev pub decreases-find_arguments : goal.decreases-find_arguments
decreases-find_arguments l = 8 * goal.size-find_arguments l + 3

abbrev pub decreases-find_inside_type : goal.decreases-find_inside_type
decreases-find_inside_type l = 8 * goal.size-find_inside_type l + 4

abbrev pub decreases-find_type : goal.decreases-find_type
decreases-find_type l = 8 * goal.size-find_type l + 5

abbrev pub decreases-find_call : goal.decreases-find_call
decreases-find_call l = 8 * goal.size-find_call l + 6

abbrev pub invariant-find_expressions-loop-expression : goal.invariant-find_expressions-loop-expression
invariant-find_expressions-loop-expression l = nodes l.found.items ++ in_exps (exps (map node_tree (drop l.expression-index l.expressions))) ≡ nodes l.initial.found.items ++ in_exps (exps (map node_tree l.expressions))

abbrev pub invariant-find_arguments-loop-argument : goal.invariant-find_arguments-loop-argument
invariant-find_arguments-loop-argument l = nodes l.found.items ++ in_exps (exps (map (λ a. node_tree a.expression) (drop l.argument-index l.arguments))) ≡ nodes l.initial.found.items ++ in_exps (exps (map (λ a. node_tree a.expression) l.arguments))
