pub mod Making
pub mod Soundness
pub mod Faultless
