mod Reading
mod Telling
pub use Rattle.wesl_load.proofs.Asking
