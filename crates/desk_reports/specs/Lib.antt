pub mod Frames
pub mod Judgements
pub mod Reports
pub mod SingleLines
pub mod Charts
pub mod Audits
