pub mod LineWords
pub mod BoxLines
pub mod Drafts
pub mod Keywords
pub mod Reading
