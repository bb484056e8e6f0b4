pub use Rattle.wgsl_path.proofs.Bools
