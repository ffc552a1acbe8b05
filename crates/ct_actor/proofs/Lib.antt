pub mod Stepping
pub mod Running
pub mod Waiting
pub mod Seating
