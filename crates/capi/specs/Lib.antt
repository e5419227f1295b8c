pub mod Words
pub mod Requests
pub mod Responses
pub mod Meter
