pub mod Walk
pub mod Steps
pub mod Rescue
pub mod Lines
pub mod Program
pub mod Laws
