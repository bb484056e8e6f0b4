pub mod Words
pub mod ChoicesLemmas
