pub mod Lacking
pub mod Reduced
pub use Rattle.core_eval.specs.Ends
pub use Rattle.core_eval.specs.Scopes
pub use Rattle.core_eval.specs.declared.error.DeclarationFault
pub use Rattle.core_eval.specs.Start
