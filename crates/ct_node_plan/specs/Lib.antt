pub mod Changes
pub mod Posts
pub mod Handed
