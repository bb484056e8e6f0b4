pub mod Names
pub mod Telling
pub use Rattle.wgsl_read_back.specs.Derivable
pub use Rattle.wgsl_read_back.specs.Texts
pub use Rattle.wgsl_read_back.specs.Nodes
pub use Rattle.wgsl_read_back.specs.TokenLayoutLaws
