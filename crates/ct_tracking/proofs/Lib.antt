pub mod Nodes
pub mod Keys
