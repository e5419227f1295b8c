pub mod Says
pub mod Content
pub mod Effects
pub mod Outcomes
pub mod Obeys
pub mod Fields
