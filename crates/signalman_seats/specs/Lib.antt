pub mod Looks
pub mod Asking
pub mod Notes
pub mod Men
pub mod Lines
pub mod Refusals
