pub mod Commands
pub mod ClapTable
pub mod ClapReads
