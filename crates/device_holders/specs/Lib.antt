pub mod Holders
pub mod Naming
