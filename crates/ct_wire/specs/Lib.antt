pub mod Spelling
pub mod Writing
pub mod Cursor
pub mod Decoding
pub mod Whole
