pub mod Circles
pub mod Chains
