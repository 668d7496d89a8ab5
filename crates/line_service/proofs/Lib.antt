pub mod Going
pub mod Kept
pub mod Lefts
pub mod Listed
pub mod Moving
pub mod Scripted
