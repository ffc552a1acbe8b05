pub mod Tables
pub mod Sorting
pub mod There
pub mod Having
