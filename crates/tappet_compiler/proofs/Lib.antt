pub mod Tappets
pub mod Made
