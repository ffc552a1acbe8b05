pub mod Small
pub mod Places
pub mod Ways
pub mod Formed
pub mod Fronts
pub mod Descent
pub mod Opened
