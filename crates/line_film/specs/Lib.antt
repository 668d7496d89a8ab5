pub mod Changes
pub mod Frames
pub mod Drawing
pub mod Rows
pub mod Desk
pub mod Pages
