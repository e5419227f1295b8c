pub mod Head
pub mod Forms
pub mod Key
pub mod Laws
