pub mod Scenes
pub mod Places
pub mod Levers
pub mod Channels
pub mod Pictures
