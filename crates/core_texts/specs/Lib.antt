pub mod Texts
pub mod Laws
pub use Rattle.wgsl_check_unit.specs.Texts as ParserTexts
pub use Rattle.wgsl_check_unit.specs.Derivable
