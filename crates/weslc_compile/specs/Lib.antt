pub mod Plain
pub mod Whole
pub use Rattle.weslc_calls.specs.Stored
pub use Rattle.weslc_calls.specs.Options
pub use Rattle.weslc_calls.specs.VirtualResolver
pub use Rattle.weslc_calls.specs.OfCore
pub use Rattle.weslc_calls.specs.Answers
pub use Rattle.weslc_calls.specs.CompileError
pub use Rattle.weslc_calls.specs.Refused
pub use Rattle.weslc_calls.specs.Mapped
pub use Rattle.weslc_calls.specs.Plain as CallsPlain
