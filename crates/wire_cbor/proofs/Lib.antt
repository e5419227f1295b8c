-- What the proofs of several functions use, and the laws that callers cite.
pub mod Sound
pub mod Seen
pub mod ItemSteps
pub mod WalkSteps
pub mod Passes
pub mod PassSteps
-- The proofs of the laws, for callers to cite.
pub mod Complete
pub mod Payload
pub mod Walks
pub mod SameValues
