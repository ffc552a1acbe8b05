pub mod Keys
pub mod Beside
pub mod Sending
