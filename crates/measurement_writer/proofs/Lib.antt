-- What the proofs of several functions use.
pub mod Walk
pub mod Cases
pub mod Short
-- What the proofs of several functions use, and the walk that the writer cites.
pub mod FitWalk
pub mod FitCases
