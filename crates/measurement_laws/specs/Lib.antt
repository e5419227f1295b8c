pub mod RoundTrips
pub mod Outside
pub mod Longest
pub mod Examples
