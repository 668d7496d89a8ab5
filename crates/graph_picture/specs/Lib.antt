pub mod Places
pub mod Boxes
pub mod Rulings
pub mod Trains
pub mod Pictures
