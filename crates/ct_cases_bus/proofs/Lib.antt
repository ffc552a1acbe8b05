pub mod Seating
pub mod Sound
