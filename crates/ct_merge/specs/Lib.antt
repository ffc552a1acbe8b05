pub mod Placing
pub mod Held
pub mod Orders
pub mod Gathered
pub mod Rule
pub mod Code
