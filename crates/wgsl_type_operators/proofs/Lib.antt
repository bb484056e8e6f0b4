pub mod Candidates
pub mod Shapes
pub mod UnaryCandidates
pub use Rattle.wgsl_shader_type.proofs.Ranks
