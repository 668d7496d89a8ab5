pub mod LeverPlans
pub mod Replies
pub mod Rows
pub mod LeverFrames
