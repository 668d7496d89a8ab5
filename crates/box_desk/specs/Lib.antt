pub mod IncomingLines
pub mod Boxes
pub mod LeverReplies
pub mod TrainMoves
pub mod Steps
pub mod Looks
pub mod Desks
