pub mod Marks
pub mod Firsts
pub mod Traces
pub mod SectionNumbers
pub mod BoardsShown
pub mod Rounds
pub mod Lines
pub mod JournalRounds
