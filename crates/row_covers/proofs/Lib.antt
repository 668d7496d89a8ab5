pub mod CoverLemmas
pub mod PairLemmas
pub mod RedundantLemmas
