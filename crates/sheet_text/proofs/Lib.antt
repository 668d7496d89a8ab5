pub mod Dealing
pub mod Few
pub mod Spaces
