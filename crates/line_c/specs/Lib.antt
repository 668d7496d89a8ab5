pub mod Calls
pub mod Lines
pub mod Looks
pub mod Statuses
pub mod Taken
pub mod Texts
