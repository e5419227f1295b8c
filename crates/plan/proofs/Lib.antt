-- What the proofs of several functions use, and the laws of the plan that callers cite.
pub mod IsPlan
pub mod Due
pub mod Quiet
pub mod Walk
pub mod Find
pub mod Answers
