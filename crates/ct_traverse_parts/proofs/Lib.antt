pub mod Back
pub mod Exact
pub mod Keeping
pub mod Packing
pub mod Waiting
pub mod Moving
