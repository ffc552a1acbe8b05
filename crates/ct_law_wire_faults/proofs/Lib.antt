pub mod Found
pub mod Fronts
pub mod Laws
pub mod Named
pub mod Offsets
pub mod Reached
pub mod Steps
