pub mod Scheduling
pub mod Laws
