pub mod ListLemmas
pub mod FrameLemmas
pub mod ReportLemmas
pub mod FaultLemmas
pub mod WayLemmas
pub mod CircleLemmas
