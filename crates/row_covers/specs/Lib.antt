pub mod Covers
pub mod Pairs
