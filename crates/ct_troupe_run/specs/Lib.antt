pub mod Running
pub mod Text
pub mod Chains
pub mod Columns
