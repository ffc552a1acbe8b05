pub mod Map
pub mod Calls
pub mod Lending
pub mod Hashed
pub mod Those
