pub mod Growing
pub mod MadeLine
pub mod BaseRead
pub mod TrainNames
pub mod TrainsRead
pub mod PlanRead
pub mod CallsKnown
pub mod CallCount
