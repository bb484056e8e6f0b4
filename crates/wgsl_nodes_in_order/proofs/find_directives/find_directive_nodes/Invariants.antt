use Rattle.std.proofs.Common.{◌≡◌, ◌++◌, drop, map}
use Rattle.wgsl_declarations.specs.ImportsView.{directive_tree}
use Rattle.wgsl_nodes_in_order.specs.Found.{nodes}
use Rattle.wgsl_nodes_in_order.specs.Nodes.{in_directives}
use Rattle.wgsl_nodes_in_order.proofs.find_directives.find_directive_nodes.Given as goal

abbrev pub invariant-loop-directive : goal.invariant-loop-directive
invariant-loop-directive l = nodes l.found.items ++ in_directives (map directive_tree (drop l.directive-index l.directives)) ≡ in_directives (map directive_tree l.directives)
