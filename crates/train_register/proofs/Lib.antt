pub mod ToldLines
pub mod Counts
pub mod Parts
