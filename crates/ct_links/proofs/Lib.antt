pub mod Steps
pub mod Handing
pub mod Passing
pub mod Joining
