pub mod Registers
pub mod Filling
