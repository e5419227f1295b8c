pub mod Requests
pub mod Responses
