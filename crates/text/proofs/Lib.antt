-- What the proofs of several functions use, and the laws that callers cite.
pub mod Digits
pub mod Hexes
pub mod Signs
pub mod Pieces
