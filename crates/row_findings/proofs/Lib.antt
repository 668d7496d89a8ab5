pub mod AloneLemmas
pub mod MarkLemmas
pub mod RedundantLemmas
