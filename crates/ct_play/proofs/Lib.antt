pub mod Adding
pub mod Ascending
pub mod Coming
pub mod Made
pub mod Reading
pub mod Running
pub mod Runs
pub mod Telling
