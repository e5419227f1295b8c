-- What the proofs of several functions use.
mod Answered
mod Measured
