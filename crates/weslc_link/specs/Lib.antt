pub use Rattle.core_resolver.specs.Found
