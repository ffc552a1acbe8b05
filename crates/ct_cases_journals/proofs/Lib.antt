pub mod Computed
pub mod Few
pub mod Joinable
pub mod Pairs
