pub mod Marks
pub mod RequestsKept
pub mod ResponsesKept
