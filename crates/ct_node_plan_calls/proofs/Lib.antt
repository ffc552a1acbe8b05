pub mod Releasing
pub mod Serving
pub mod Writing
