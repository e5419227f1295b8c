-- What the proofs of several functions use.
pub mod Requested
pub mod Encoded
