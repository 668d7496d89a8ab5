pub mod DeskLines
pub mod Workings
