pub mod Deciding
pub mod Calls
pub mod Lines
pub mod Pulls
