pub mod Answers
pub mod Reasons
pub mod Refusals
pub mod States
