pub mod Computed
pub mod Ends
pub mod Later
