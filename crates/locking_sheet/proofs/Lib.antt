pub mod Onto
pub mod ItemReads
pub mod LineReads
pub mod InOrder
pub mod ReadBack
pub mod Once
pub mod BoxFrames
