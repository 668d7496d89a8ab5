pub mod Parts
pub mod CallParts
pub mod ReplyParts
pub mod ThingParts
pub mod CauseNumbers
