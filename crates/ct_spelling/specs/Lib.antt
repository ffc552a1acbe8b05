pub mod Number
pub mod Spelling
