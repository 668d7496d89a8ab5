pub mod Levers
pub mod Lines
pub mod Classes
pub mod Named
pub mod Coming
pub mod Seen
pub mod Noticing
