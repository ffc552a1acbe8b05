pub mod Hashing
pub mod Maps
pub mod Playing
pub mod Those
