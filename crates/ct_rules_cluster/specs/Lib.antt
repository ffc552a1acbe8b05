pub mod Labels
pub mod Cluster
pub mod Faults
pub mod Steps
pub mod Traces
pub mod Handed
