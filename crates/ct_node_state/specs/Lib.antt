pub mod Whole
pub mod Phases
pub mod Goes
