use Rattle.std.proofs.Common.{◌≡◌, ◌++◌, drop, map}
use Rattle.wgsl_nodes_in_order.specs.Found.{nodes}
use Rattle.std.specs.List.{flat_map}
use Rattle.wgsl_declarations.specs.View.{parameter_tree}
use Rattle.wgsl_nodes_in_order.specs.Nodes.{in_param}
use Rattle.wgsl_nodes_in_order.proofs.find_declarations.find_parameters.Given as goal

abbrev pub invariant-loop-parameter : goal.invariant-loop-parameter
invariant-loop-parameter l = nodes l.found.items ++ flat_map in_param (map parameter_tree (drop l.parameter-index l.parameters)) ≡ nodes l.initial.found.items ++ flat_map in_param (map parameter_tree l.parameters)
