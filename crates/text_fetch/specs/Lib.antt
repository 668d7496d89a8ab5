pub mod FromTexts
pub mod Fetches
pub mod Runs
