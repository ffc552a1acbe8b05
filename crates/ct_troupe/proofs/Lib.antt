pub mod Counting
pub mod Staging
pub mod Ending
pub mod Playing
pub mod Chained
