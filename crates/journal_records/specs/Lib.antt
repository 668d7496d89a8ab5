pub mod Entries
pub mod Named
pub mod Objects
pub mod Rows
pub mod Said
pub mod Told
