pub use Rattle.core_unit.specs.Derivable
