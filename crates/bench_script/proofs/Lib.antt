-- What the proofs of several functions use, and the laws that callers cite.
pub mod Steps
pub mod Printing
pub mod Rooms
pub mod Texts
pub mod Fronts
pub mod Plays
