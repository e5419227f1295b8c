pub mod Refusals
pub mod Calls
pub mod Commands
pub mod Start
