pub mod Nodes
pub mod Keeps
pub mod Located
pub mod Once
pub use Rattle.core_lower_expressions.specs.Lowered
pub use Rattle.core_eval.specs.declared.error.DeclarationFault
pub use Rattle.core_eval.specs.Start
pub use Rattle.core_lower_expressions.specs.Computed
