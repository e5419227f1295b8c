pub mod Edges
pub mod Leaves
pub mod States
pub mod Smallest
pub mod Rows
