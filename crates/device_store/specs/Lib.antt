pub mod Sizes
pub mod Zones
pub mod Words
pub mod Quantities
pub mod Smaller
pub mod Counts
