pub mod Stuck
pub mod Free
pub mod SoFar
pub mod UnderWay
pub mod Over
pub mod Rounds
