pub mod Fields
pub mod Faults
pub mod Fronts
pub mod Offsets
