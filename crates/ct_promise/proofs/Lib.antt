pub mod Opened
mod Nodes
pub mod Born
mod Reached
pub mod Follows
