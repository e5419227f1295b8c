pub mod Runs
pub mod Answers
pub mod Bench
pub mod Laws
pub mod Device
