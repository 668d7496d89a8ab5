pub mod MadeTrains
pub mod MadeTexts
pub mod MadeCalls
