mod Alone
mod Stopped
mod Onward
mod NextText
mod Faults
mod EachScript
mod ByName
