pub mod Features
pub mod Endpoints
pub mod Attributes
