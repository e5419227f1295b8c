-- What the proofs of several functions use.
pub mod Answered
pub mod Encoded
