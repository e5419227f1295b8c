pub mod Buffer
pub mod Ready
pub mod Laws
