pub mod Alike
pub mod Holds
pub mod Dues
pub mod Links
pub mod Table
