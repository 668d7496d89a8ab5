pub mod Troubles
pub mod Gathered
pub mod Others
pub mod Journals
pub mod Frames
