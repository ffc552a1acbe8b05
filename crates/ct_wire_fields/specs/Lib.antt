pub mod Check
pub mod Reading
pub mod Version
