pub mod Few
pub mod After
pub mod NextPlaces
pub mod OwnSpots
