pub mod CallLines
pub mod Reports
pub mod Numbers
pub mod Accounts
pub mod Standings
pub mod ReportLines
