pub mod Meshed
pub mod Seated
pub mod Threaded
pub mod Threads
pub mod Sides
