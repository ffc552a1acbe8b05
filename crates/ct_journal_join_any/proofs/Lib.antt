pub mod Searching
pub mod Deciding
pub mod Marking
pub mod Stepping
pub mod Reached
pub mod Rounds
pub mod Outcome
