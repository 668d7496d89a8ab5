pub mod Sheets
pub mod Items
pub mod Lines
pub mod Texts
pub mod Laws
