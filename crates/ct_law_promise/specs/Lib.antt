pub mod Merges
pub mod Small
pub mod Phrases
pub mod Databases
pub mod Addresses
pub mod Holders
