pub mod Noting
pub mod Sweeping
