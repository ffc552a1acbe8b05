pub mod Planning
pub mod Sounding
pub mod Whole
pub mod Ranged
pub mod Served
