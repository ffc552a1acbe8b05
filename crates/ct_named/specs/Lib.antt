pub mod Named
pub mod Handed
