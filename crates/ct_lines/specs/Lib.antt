pub mod Grammar
pub mod Places
pub mod Reading
pub mod Spelled
pub mod Words
