pub mod Next
pub mod Walked
