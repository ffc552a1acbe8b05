pub mod Calls
pub mod Following
pub mod Lists
pub mod Fronts
pub mod Queues
pub mod Growth
