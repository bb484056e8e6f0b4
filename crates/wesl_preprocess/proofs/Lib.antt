pub mod DecidingLemmas
