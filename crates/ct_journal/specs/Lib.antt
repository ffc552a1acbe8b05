pub mod Runs
pub mod Order
pub mod Going
pub mod Schedules
pub mod Worked
