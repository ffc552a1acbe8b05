pub mod Drains
