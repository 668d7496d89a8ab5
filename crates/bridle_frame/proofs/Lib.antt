pub mod Seats
pub mod Counts
pub mod Indexes
pub mod Frames
