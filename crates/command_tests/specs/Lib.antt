pub mod Content
pub mod Asked
pub mod Order
