pub mod Rosters
pub mod Looks
pub mod Serial
