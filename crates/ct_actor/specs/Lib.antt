pub mod Acting
pub mod Handed
pub mod Journalled
pub mod Queues
pub mod Seats
