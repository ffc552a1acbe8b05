pub mod Carrying
pub mod Passing
pub mod Joining
