pub mod Lanes
pub mod Marks
pub mod Packing
