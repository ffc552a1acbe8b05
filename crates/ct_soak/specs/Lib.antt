pub mod Soak
pub mod Counts
pub mod Soaking
