pub mod Counts
pub mod Making
pub mod Laws
pub mod Worked
