pub mod Others
pub mod Sessions
pub mod Works
