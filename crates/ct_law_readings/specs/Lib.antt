pub mod Readings
pub mod Small
pub mod Fresh
pub mod Greatest
pub mod Moments
