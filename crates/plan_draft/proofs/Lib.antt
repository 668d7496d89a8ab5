mod Behind
mod PlaceWords
mod Worked
mod Differ
mod Brought
mod Longer
pub mod Following
pub mod Classes
