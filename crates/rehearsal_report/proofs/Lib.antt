pub mod Reported
pub mod Counting
pub mod Accounts
pub mod RaceLines
pub mod Ready
pub mod RefusedLines
pub mod Standing
