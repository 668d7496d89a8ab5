pub mod Histories
pub mod Tokens
