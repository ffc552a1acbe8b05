pub mod Letters
pub mod Demands
pub mod Order
