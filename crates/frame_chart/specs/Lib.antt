pub mod Spans
pub mod Charts
pub mod Laying
pub mod Checking
pub mod Printing
