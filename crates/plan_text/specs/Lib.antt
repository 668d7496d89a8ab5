pub mod Printing
pub mod Spelled
