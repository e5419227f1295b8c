-- What callers cite of the definitions.
pub mod Ends
pub mod Framed
