pub mod Noted
pub mod Code
pub mod Sweeps
