-- Lists of references to nodes.
use Rattle.std.specs.Prelude.{List, [], ◌∷◌, map}
use Rattle.wgsl_expressions.specs.View.{tree, type_tree}
use Rattle.wgsl_expressions.specs.AttributesView.{attribute_tree}
use Rattle.wgsl_statements.specs.View.{statement_tree, stms}
use Rattle.wgsl_declarations.specs.View.{member_tree, parameter_tree}
use Rattle.wgsl_nodes_in_order.specs.declared.node.NodeRef.{NodeRef}
use Rattle.wgsl_nodes_in_order.specs.declared.node.NodeRef.TheVariants as reference
use Rattle.wgsl_nodes_in_order.specs.Nodes.{Node, attribute_node, expression_node, type_node, statement_node, member_node, parameter_node}

-- the node that a reference points to
abbrev pub node_of : NodeRef → Node
node_of (reference.Attribute x) = attribute_node (attribute_tree x.now)
node_of (reference.Expression x) = expression_node (tree x.now)
node_of (reference.Type x) = type_node (type_tree x.now)
node_of (reference.Statement x) = statement_node (stms (statement_tree x.now ∷ []))
node_of (reference.Member x) = member_node (member_tree x.now)
node_of (reference.Parameter x) = parameter_node (parameter_tree x.now)

abbrev pub nodes : List NodeRef → List Node
nodes refs = map node_of refs
