pub mod Laws
pub mod Counted
pub mod Schedule
pub mod Telling
