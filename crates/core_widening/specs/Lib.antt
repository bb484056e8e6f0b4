pub mod Contents
pub use Rattle.core_narrowing.specs.Places
pub use Rattle.core_narrowing.specs.ModulePlaces
pub use Rattle.core_narrowing.specs.declared.error.NarrowError
pub use Rattle.core_narrowing.specs.Widening
pub use Rattle.core_narrowing.specs.InCore
pub use Rattle.core_narrowing.specs.Narrowing
