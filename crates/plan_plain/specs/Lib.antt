pub mod Plain
pub mod Records
pub mod Candidates
