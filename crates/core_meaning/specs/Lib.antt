pub mod Values
pub mod Outcome
pub mod Names
pub mod Meaning
pub mod Programs
pub mod Written
pub mod ConstStage
pub use Rattle.wgsl_scalar.specs.declared.scalar.ScalarType
