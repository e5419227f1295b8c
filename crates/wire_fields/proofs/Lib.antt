-- What the proofs of several functions use, and the laws that callers cite.
pub mod Given
pub mod Joined
pub mod Signs
pub mod ByKeyHead
pub mod RangeLaws
pub mod Parts
pub mod Added
pub mod PhaseLaws
pub mod BySeen
pub mod OnlyLaws
