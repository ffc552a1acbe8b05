pub mod Had
pub mod Code
