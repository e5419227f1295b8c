-- What the proofs of several functions use.
pub mod Bools
pub mod Walks
pub mod Tables
pub mod Candidates
pub mod Counts
pub mod Writes
pub mod Listed
pub mod Answers
-- The proofs of the laws, for callers to cite.
pub mod Members
pub mod Bounds
pub mod Laws
pub mod Longest
pub mod Witnesses
pub mod Rises
