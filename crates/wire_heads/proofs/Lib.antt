-- What the proofs of several functions use, and the laws of heads that callers cite.
pub mod Widths
pub mod HeadLaws
pub mod HeadSteps
pub mod KeySteps
