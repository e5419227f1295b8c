pub mod Receive
pub mod Words
