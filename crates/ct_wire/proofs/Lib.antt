mod AtOnce
pub mod Eaten
mod Frames
mod Lists
