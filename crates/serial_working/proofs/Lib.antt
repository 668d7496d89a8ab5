pub mod LeftOf
pub mod NextBox
pub mod Turning
pub mod SerialTurns
