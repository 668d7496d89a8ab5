pub mod History
pub mod Law
pub mod States
pub mod Trains
