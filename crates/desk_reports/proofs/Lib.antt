pub mod Cases
pub mod PlanReports
pub mod Worked
