-- What the proofs of several functions use.
mod Digits
mod Pairs
mod Cuts
mod Written
mod Ends
mod Places
mod Attributes
