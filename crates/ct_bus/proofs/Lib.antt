pub mod Columns
pub mod Fronts
pub mod Places
pub mod Relays
pub mod Seats
