pub mod Redundant
pub mod Covering
pub mod Marks
