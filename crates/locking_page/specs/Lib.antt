pub mod Cells
pub mod Lines
pub mod Pages
pub mod Laws
