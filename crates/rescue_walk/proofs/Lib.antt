-- What the proofs of several functions use, and the walk without a bound.
pub mod Begins
pub mod Walks
pub mod Pieces
pub mod Loops
pub mod Writings
-- What the proofs use.
mod Pairs
-- How much room is always enough, and what the program leaves in it.
pub mod Rooms
pub mod Lengths
pub mod Programs
