-- What the proofs of several functions use, and the laws of the calls that callers cite.
pub mod Refused
pub mod Changes
pub mod Decisions
