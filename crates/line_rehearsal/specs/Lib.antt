pub mod Stops
pub mod Rehearsals
