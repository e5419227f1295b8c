pub mod Room
pub mod Shape
