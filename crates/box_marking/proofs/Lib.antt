pub mod Told
pub mod Kept
pub mod Struck
pub mod InOrder
pub mod Exactly
pub mod Hearing
pub mod Shut
