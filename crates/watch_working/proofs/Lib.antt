pub mod Shows
pub mod Taking
pub mod LastRounds
