pub mod Ways
pub mod Walkers
