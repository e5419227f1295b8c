pub mod Computed
pub mod OtherOrder
-- The laws, each in the file of its subject.
pub mod Sounds
pub mod Pinned
pub mod Places
pub mod Benches
pub mod Examples
