pub mod World
pub mod Feeding
pub mod View
