pub mod Named
mod Finding
mod Indexed
pub mod Listed
mod Copied
