pub use Rattle.wesl_visit_in_modules.specs.Modules
