pub mod Clashes
pub mod Found
pub mod Texts
pub mod FindingFacts
