pub mod Days
pub mod Doings
pub mod Journals
pub mod Parts
pub mod Refused
pub mod Told
pub mod Transcripts
