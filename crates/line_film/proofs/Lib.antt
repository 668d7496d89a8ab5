pub mod Counted
pub mod Changed
pub mod Framed
