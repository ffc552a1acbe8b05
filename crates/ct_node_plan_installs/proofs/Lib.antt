pub mod Filling
pub mod Made
pub mod Pushed
