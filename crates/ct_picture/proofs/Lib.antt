pub mod Inside
pub mod Lists
pub mod Runs
