pub mod PlaceLemmas
pub mod OrderLemmas
