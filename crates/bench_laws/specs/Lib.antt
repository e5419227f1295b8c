pub mod Example
pub mod OtherOrder
pub mod Sound
pub mod Answers
pub mod Laws
pub mod Places
