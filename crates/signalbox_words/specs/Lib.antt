pub mod Commands
pub mod Table
