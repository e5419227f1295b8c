pub mod Table
pub mod Cells
pub mod Words
pub mod Payload
pub mod Rows
