pub mod Engines
pub mod Explained
