pub mod Capped
-- What the proofs of several functions use.
pub mod Quantities
