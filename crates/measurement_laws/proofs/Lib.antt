-- The proofs of the laws, for callers to cite.
pub mod Fields
pub mod Inside
pub mod Back
pub mod Again
pub mod WellFormed
pub mod Longest
pub mod Payloads
pub mod InWords
pub mod Computed
