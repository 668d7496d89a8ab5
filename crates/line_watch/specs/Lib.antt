pub mod Sights
pub mod Watching
pub mod Boards
pub mod Shown
pub mod Told
