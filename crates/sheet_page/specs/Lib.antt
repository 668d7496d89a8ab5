pub mod Words
pub mod Columns
pub mod Rows
pub mod Pages
