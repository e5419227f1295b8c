-- What callers cite of a writer's answer.
pub mod Sends
