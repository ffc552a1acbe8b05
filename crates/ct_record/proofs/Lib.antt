pub mod Limits
pub mod Machines
