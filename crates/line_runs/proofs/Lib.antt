pub mod BothHold
pub mod ScriptsWorked
pub mod OutputRead
pub mod LineWatched
pub mod Refused
pub mod Printed
pub mod Copied
pub mod Counted
