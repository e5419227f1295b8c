pub mod Numbers
pub mod Hex
pub mod Examples
pub mod Spans
pub mod Lists
pub mod Answers
