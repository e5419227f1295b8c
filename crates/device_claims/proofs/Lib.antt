-- What the proofs of several functions use, and the laws of places that callers cite.
pub mod Places
pub mod Claims
