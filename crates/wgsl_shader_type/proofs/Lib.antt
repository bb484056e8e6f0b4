pub mod Classes
pub mod Commons
pub mod LayoutSteps
pub mod Layouts
pub mod Ranks
pub mod Rounding
pub use Rattle.wgsl_base.proofs.Bools
