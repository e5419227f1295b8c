pub mod Sizes
pub mod Lists
pub mod Features
pub mod Attributes
pub mod Rules
pub mod Report
pub mod Statements
pub mod Examples
