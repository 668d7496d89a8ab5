pub mod Marks
pub mod Races
pub mod Keys
pub mod Nearest
pub mod Scans
