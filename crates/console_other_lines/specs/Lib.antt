pub mod Scraps
pub mod Lines
pub mod Rescues
pub mod Meas
