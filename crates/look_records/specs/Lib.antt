pub mod Changes
pub mod Names
pub mod Objects
pub mod Things
