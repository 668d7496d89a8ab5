pub mod Hands
pub mod Instruments
pub mod Sections
