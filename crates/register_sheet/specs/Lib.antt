pub mod Queues
pub mod Events
pub mod Bells
pub mod Columns
pub mod Trains
pub mod Spots
pub mod Lines
pub mod Sheets
