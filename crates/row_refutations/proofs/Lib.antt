pub mod RowsSay
pub mod Reached
