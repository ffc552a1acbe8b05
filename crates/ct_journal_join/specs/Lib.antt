pub mod Queues
pub mod Passing
pub mod Joining
