pub mod Fields
pub mod Ranges
pub mod Puts
pub mod KeyHeads
pub mod ByPhase
pub mod Laws
pub mod Values
pub mod Seen
