pub use Rattle.core_calls.specs.Mode
