pub mod Arms
pub mod Authorities
pub mod MayPull
pub mod Passages
pub mod Pulls
pub mod Upgrades
