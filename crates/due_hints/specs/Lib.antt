pub mod Hints
pub mod Dues
