pub mod Statuses
pub mod Outcomes
pub mod Top
pub mod Headlines
pub mod Served
