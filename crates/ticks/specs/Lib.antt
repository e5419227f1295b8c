pub mod Ticks
pub mod Words
