pub mod Limits
pub mod Numbers
pub mod Ways
pub mod Frames
pub mod Berths
pub mod Plans
pub mod Sections
pub mod Upgrades
