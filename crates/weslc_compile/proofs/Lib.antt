mod Inside
mod Left
mod Plain
pub mod Too
pub use Rattle.weslc_calls.proofs.One
pub use Rattle.weslc_calls.proofs.Alone
