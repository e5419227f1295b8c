pub mod RoundTrips
pub mod Longest
pub mod PassedOver
