-- What the proofs of several functions use.
pub mod Counts
pub mod Tests
pub mod Worded
