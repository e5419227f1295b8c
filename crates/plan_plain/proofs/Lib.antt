-- What the proofs of several functions use, and the laws that callers cite.
pub mod Next
pub mod Onward
pub mod Fill
-- What the proofs of several functions use.
pub mod Nearest
