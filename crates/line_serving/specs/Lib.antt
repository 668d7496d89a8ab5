pub mod Sources
pub mod Transcripts
