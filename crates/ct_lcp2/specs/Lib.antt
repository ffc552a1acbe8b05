pub mod Distance
pub mod Best
pub mod Placing
pub mod Tallies
pub mod Leavers
