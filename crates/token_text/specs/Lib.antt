pub mod Acts
pub mod Drafts
pub mod Limits
pub mod Outputs
pub mod Scripts
pub mod Spelled
