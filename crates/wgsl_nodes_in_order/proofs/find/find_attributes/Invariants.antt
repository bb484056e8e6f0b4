use Rattle.std.proofs.Common.{◌≡◌, ◌++◌, drop}
use Rattle.wgsl_nodes_in_order.specs.Found.{nodes}
use Rattle.wgsl_expressions.specs.AttributesView.{attributes_tree}
use Rattle.wgsl_nodes_in_order.specs.Nodes.{in_attrs}
use Rattle.wgsl_nodes_in_order.proofs.find.find_attributes.Given as goal

abbrev pub invariant-loop-attribute : goal.invariant-loop-attribute
invariant-loop-attribute l = nodes l.found.items ++ in_attrs (attributes_tree (drop l.attribute-index l.attributes)) ≡ nodes l.initial.found.items ++ in_attrs (attributes_tree l.attributes)
