pub mod Item
pub mod Find
pub mod Scan
pub mod Pass
pub mod Laws
pub mod Encodings
