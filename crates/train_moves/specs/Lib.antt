pub mod Standings
pub mod TrainsHere
pub mod Bringing
pub mod Moves
