pub mod Going
pub mod Hearing
pub mod Noting
pub mod Taking
pub mod Telling
pub mod Turning
pub mod Turns
pub mod Handed
