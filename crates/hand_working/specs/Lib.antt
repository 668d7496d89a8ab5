pub mod Duties
pub mod Endings
pub mod Passages
pub mod Sources
pub mod Tones
pub mod Transcripts
pub mod Works
