pub mod AsBox
pub mod Words
