pub mod Footprint
pub mod Rings
pub mod TellsWord
pub mod WordNumbers
pub mod Operations
pub mod SameNumbers
pub mod WordEnds
pub mod WordPlaces
