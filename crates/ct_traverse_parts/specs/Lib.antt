pub mod Best
pub mod Kept
pub mod Rows
pub mod Packed
pub mod Posts
pub mod Text
pub mod Walk
pub mod Moves
