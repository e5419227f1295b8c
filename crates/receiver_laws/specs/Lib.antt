pub mod Stream
pub mod Driver
pub mod Laws
