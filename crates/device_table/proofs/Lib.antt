-- What the proofs of several functions use, and the laws of the smaller number that callers cite.
pub mod Ends
pub mod LeafRows
mod Naturals
-- What the proofs of several functions use.
mod Filled
