pub mod Open
pub mod Entries
pub mod Walking
pub mod Frames
pub mod Steps
pub mod Adding
pub mod Growing
pub mod Calls
