mod Asked
mod MatchRules
mod Told
