pub mod Amounts
pub mod Words
pub mod Fields
