pub mod Rows
pub mod Plan
pub mod Walk
