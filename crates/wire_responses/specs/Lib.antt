pub mod Responses
pub mod KeyHeads
pub mod Seen
pub mod WrittenResponses
pub mod Sizes
pub mod Replies
