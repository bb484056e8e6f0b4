pub mod TableLemmas
pub mod ScopeLemmas
pub mod TellLemmas
