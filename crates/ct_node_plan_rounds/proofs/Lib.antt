pub mod Acks
pub mod Begins
pub mod Planned
pub mod Replies
