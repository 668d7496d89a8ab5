pub mod Drafts
pub mod Items
pub mod Marks
pub mod Places
pub mod Texts
pub mod Printing
