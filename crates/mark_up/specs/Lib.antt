pub mod Escapes
pub mod Tags
pub mod Attributes
pub mod Documents
