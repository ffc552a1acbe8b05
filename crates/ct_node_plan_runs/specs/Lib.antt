pub mod Again
pub mod Lead
pub mod Notes
