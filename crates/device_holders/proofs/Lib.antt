pub mod Places
pub mod Holding
pub mod Signs
pub mod Best
pub mod Names
