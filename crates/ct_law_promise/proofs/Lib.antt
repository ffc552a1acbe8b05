pub mod Merging
pub mod Reached
pub mod Small
pub mod Nowhere
pub mod Together
pub mod Running
mod Newest
mod Stays
mod Keeping
mod Told
pub mod Locking
pub mod Whole
pub mod Stepping
pub mod CommitsRunning
pub mod Given
pub mod HeldTogether
pub mod Stood
pub mod Beside
pub mod Law
pub mod Holders
pub mod Arrivals
pub mod AddressLaw
