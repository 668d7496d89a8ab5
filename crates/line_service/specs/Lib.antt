pub mod Answers
pub mod Calls
pub mod Lists
pub mod Looks
pub mod Scripts
pub mod Services
