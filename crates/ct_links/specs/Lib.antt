pub mod Book
pub mod Boxes
pub mod Hub
pub mod Lanes
pub mod Streams
pub mod Meshes
