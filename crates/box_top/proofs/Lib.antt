pub mod Outcomes
pub mod AllTold
pub mod WatchRead
pub mod Headlines
pub mod DeskDone
pub mod Serving
