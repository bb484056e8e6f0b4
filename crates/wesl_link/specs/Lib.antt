pub mod EntryPoints
