pub mod Leaving
pub mod Serving
pub mod Seating
pub mod Settling
pub mod Threading
pub mod Meshing
pub mod Arriving
pub mod Ending
