pub mod Choices
pub mod Distances
pub mod Loops
pub mod Orders
pub mod Repeats
pub mod Standing
pub mod Steps
pub mod Tallies
