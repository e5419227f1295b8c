-- The proofs of the laws, for callers to cite.
pub mod Maps
pub mod FieldsBack
pub mod FieldsAgain
pub mod Trips
pub mod PhaseTrips
pub mod RequestBack
pub mod RequestAgain
pub mod ResponseBack
pub mod ResponseAgain
pub mod Longest
pub mod Shorter
pub mod PassedOver
pub mod PlainLeft
