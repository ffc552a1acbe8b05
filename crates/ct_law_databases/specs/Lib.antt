pub mod Placeless
