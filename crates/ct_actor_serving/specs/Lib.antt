pub mod Hearing
pub mod Outside
pub mod Serving
pub mod Turns
pub mod Handed
