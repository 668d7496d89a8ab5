pub mod Frame
pub mod Report
pub mod Text
pub mod States
