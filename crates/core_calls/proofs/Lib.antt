pub use Rattle.weslc_errors.proofs.Alone
