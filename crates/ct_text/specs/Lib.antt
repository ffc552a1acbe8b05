pub mod Dumps
pub mod Words
pub mod Answer
pub mod Message
pub mod Line
