pub mod Played
pub mod Told
pub mod Ending
pub mod Telling
