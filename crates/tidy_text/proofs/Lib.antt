pub mod Words
mod Bytes
pub mod Mended
pub mod Kept
pub mod Returns
