pub mod Params
pub mod Fields
pub mod Durations
