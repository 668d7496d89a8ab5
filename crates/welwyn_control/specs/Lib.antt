pub mod Absolute
pub mod Permissive
pub mod Releases
