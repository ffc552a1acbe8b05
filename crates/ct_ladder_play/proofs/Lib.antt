pub mod Climbing
pub mod Told
