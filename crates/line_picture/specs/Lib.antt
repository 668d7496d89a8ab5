pub mod Words
pub mod Places
pub mod Boxes
pub mod Sections
pub mod Pictures
