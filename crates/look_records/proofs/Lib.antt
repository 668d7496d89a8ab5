pub mod Named
pub mod Plain
pub mod Listed
