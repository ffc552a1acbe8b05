pub mod Ascending
pub mod Differing
pub mod Lists
pub mod Placed
pub mod Telling
