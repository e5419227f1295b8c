-- What the proofs of several functions use: the walk case by case, and that it finds what the tree holds.
pub mod Options
pub mod Walked
pub mod Fills
pub mod Rows
pub mod ByTree
