pub mod Laws
pub mod Places
pub mod Views
pub use Rattle.wgsl_instance.specs.declared.tree.Instance
pub use Rattle.wgsl_instance.specs.declared.tree.RefInstance
