pub mod Complete
pub mod Ending
pub mod Feeding
pub mod Printing
pub mod Promised
pub mod Statuses
mod Ranged
mod Unread
