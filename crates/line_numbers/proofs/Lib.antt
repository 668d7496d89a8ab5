pub mod PartsAgain
pub mod CallsAgain
pub mod RepliesAgain
pub mod ThingsAgain
pub mod CausesAgain
