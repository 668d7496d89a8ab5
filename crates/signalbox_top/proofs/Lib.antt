mod Asked
mod Fetched
pub mod Written
mod Grown
mod NamedTexts
mod Reported
mod Served
mod Working
