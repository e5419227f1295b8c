-- What the proofs of several functions use, and the laws of the table and the words that callers cite.
pub mod Held
pub mod Order
