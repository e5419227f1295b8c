pub mod Starts
pub mod Values
