pub mod Carrying
pub mod Numbering
pub mod Fronts
pub mod Taking
pub mod Queues
pub mod Walking
pub mod Scheduled
