-- The proofs of the laws, for callers to cite.
pub mod Kept
pub mod Cuttings
pub mod Empty
pub mod Sent
pub mod Left
pub mod Examples
