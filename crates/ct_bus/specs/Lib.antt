pub mod Ends
pub mod Opening
pub mod Relay
pub mod Seats
