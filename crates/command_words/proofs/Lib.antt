pub mod AddedCommands
pub mod MatchRules
pub mod AtDesk
pub mod Enters
pub mod ScriptWords
pub mod Forms
