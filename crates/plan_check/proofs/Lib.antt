pub mod Sections
pub mod Meeting
pub mod Places
pub mod Lines
pub mod Exactly
