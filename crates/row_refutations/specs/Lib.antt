pub mod Refuted
pub mod Known
