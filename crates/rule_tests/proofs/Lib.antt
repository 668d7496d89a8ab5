pub mod Hands
pub mod Instruments
pub mod Joins
pub mod Sections
