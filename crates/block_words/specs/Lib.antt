pub mod Bells
pub mod Instruments
pub mod Operations
pub mod Sections
pub mod Ways
