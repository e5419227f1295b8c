-- What the proofs of several functions use, and the laws of what holds that callers cite.
pub mod Shows
pub mod Steady
-- What the proofs of several functions use, and the law of the links that callers cite.
pub mod Since
pub mod LinkRow
pub mod Before
pub mod Winner
pub mod Rows
pub mod Lost
pub mod Currents
pub mod SameValues
