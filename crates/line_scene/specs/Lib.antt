pub mod Diagrams
pub mod Boxes
pub mod Sections
pub mod Scenes
pub mod Spots
