pub mod Claim
pub mod Ends
pub mod Pass
