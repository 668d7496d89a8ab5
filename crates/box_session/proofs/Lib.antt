pub mod GoingOn
pub mod SoFar
pub mod Journals
pub mod After
pub mod Rounds
pub mod Kept
