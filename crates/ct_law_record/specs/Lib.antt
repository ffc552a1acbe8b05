pub mod Labels
pub mod World
pub mod Calls
pub mod Marked
pub mod Handed
