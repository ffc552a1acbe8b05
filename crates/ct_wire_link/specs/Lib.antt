pub mod Parcels
pub mod Laws
pub mod Reading
pub mod Following
pub mod Sending
