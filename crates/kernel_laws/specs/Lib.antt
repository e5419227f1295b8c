pub mod Expiry
pub mod Others
pub mod Laws
pub mod Sent
pub mod SameSecond
pub mod Agree
pub mod TickLaws
pub mod Receiving
