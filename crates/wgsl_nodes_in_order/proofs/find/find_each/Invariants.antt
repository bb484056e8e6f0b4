use Rattle.std.proofs.Common.{◌≡◌, ◌++◌, drop, map}
use Rattle.wgsl_nodes_in_order.specs.Found.{nodes}
use Rattle.std.specs.List.{flat_map}
use Rattle.wgsl_expressions.specs.View.{node_tree}
use Rattle.wgsl_nodes_in_order.specs.Nodes.{in_exp}
use Rattle.wgsl_nodes_in_order.proofs.find.find_each.Given as goal

abbrev pub invariant-loop-expression : goal.invariant-loop-expression
invariant-loop-expression l = nodes l.found.items ++ flat_map in_exp (map node_tree (drop l.expression-index l.expressions)) ≡ nodes l.initial.found.items ++ flat_map in_exp (map node_tree l.expressions)
