pub mod TreeLemmas
pub mod PositionLemmas
pub mod FaultLemmas
pub mod SearchLemmas
pub mod UnitLemmas
pub mod ClearLemmas
pub mod Located
