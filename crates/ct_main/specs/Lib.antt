pub mod Claims
pub mod Complete
pub mod Feeding
pub mod Statuses
pub mod Handed
