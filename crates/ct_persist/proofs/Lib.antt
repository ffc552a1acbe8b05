pub mod Looks
pub mod InPlace
pub mod Orders
pub mod Counts
pub mod Rounds
