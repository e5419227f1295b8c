-- What the proofs of several functions use, and the laws of the driver.
pub mod Whole
pub mod Turns
pub mod Stops
pub mod Readings
pub mod Moves
mod Taken
