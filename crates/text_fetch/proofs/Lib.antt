pub mod Fetched
pub mod Gathering
pub mod RunInputs
