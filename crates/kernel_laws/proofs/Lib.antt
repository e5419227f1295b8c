pub mod FirstOf
pub mod Rooms
pub mod Expiry
pub mod Others
-- The proofs of the laws, for callers to cite.
pub mod InRange
pub mod Unserved
pub mod Readable
-- The proofs of the statements.
pub mod Roomy
pub mod EitherWay
pub mod EveryOrder
pub mod Due
pub mod Agree
pub mod Over
pub mod InWords
mod Examples
pub mod Received
