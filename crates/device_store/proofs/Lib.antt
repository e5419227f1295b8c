-- What the proofs of several functions use, and the laws of the words that callers cite.
pub mod Tests
pub mod Folds
pub mod Runs
pub mod HeldWords
pub mod Lens
pub mod Placed
pub mod Stores
pub mod Effects
pub mod Slots
pub mod Answered
pub mod Smaller
pub mod Ranges
