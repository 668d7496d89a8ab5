pub mod Seated
pub mod Shifts
pub mod Frames
