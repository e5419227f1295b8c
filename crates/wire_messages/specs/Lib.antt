pub mod Numbers
pub mod Options
pub mod Shapes
pub mod Statuses
