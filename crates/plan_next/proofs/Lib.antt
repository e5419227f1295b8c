pub mod Later
pub mod Seek
pub mod ByRow
