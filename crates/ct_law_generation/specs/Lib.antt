pub mod Waiting
pub mod Shown
pub mod Law
