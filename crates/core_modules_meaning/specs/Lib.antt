pub mod SourcePrograms
pub mod Runs
pub mod Executions
pub mod Declared
pub mod Unique
pub mod Determined
pub mod Asked
pub mod Example
pub mod Same
pub mod Agreement
pub use Rattle.core_programs.specs.Programs
pub use Rattle.core_programs.specs.Names
pub use Rattle.core_programs.specs.Runs as ProgramsRuns
