pub mod Table
pub mod Chosen
pub mod Gives
pub mod Lines
pub mod Typed
