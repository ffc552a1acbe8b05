pub mod Exchange
pub mod Handling
pub mod Named
pub mod Shown
