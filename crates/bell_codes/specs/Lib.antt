pub mod Codes
pub mod Reading
pub mod Table
pub mod Faults
