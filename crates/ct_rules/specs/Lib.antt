pub mod State
pub mod Parts
pub mod Messages
pub mod Moves
