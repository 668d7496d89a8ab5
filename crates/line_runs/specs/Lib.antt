pub mod Worked
pub mod Outputs
pub mod Made
pub mod Watched
pub mod Copying
pub mod Counting
