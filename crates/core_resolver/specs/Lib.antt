pub mod Found
pub mod Laws
pub use Rattle.wesl_load.specs.Asked
