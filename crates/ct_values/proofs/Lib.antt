pub mod AddressOrder
pub mod Addresses
pub mod Orders
pub mod Reading
pub mod Words
pub mod Repeats
pub mod RepeatedNumbers
