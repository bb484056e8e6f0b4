pub mod Laws
pub use Rattle.wgsl_parser.specs.Texts
pub use Rattle.wgsl_print_laws.specs.Laws as TokenLayoutLaws
pub mod Derivable
pub use Rattle.wgsl_nodes_in_order.specs.Alone
pub use Rattle.wgsl_nodes_in_order.specs.Placed
pub use Rattle.wgsl_nodes_in_order.specs.Found
pub use Rattle.wgsl_nodes_in_order.specs.Nodes
pub use Rattle.wgsl_nodes_in_order.specs.declared.node.NodeRef
