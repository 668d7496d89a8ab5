pub mod Deeds
pub mod Lines
pub mod Turns
pub mod Words
pub mod Moments
pub mod Scenes
