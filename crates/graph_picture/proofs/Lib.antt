pub mod Few
pub mod Apart
