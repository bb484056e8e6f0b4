pub use Rattle.wesl_cond_attributes.specs.declared.check.Check
pub use Rattle.wesl_cond_attributes.specs.Entering
