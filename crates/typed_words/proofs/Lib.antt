pub mod Calls
pub mod FullLines
pub mod Spaces
pub mod Understood
pub mod WrittenOut
