pub mod Settings
pub mod Requests
pub mod KeyHeads
pub mod Seen
pub mod WrittenSettings
pub mod WrittenRequests
pub mod Sizes
