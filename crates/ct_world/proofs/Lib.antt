mod Asked
mod Cores
mod Fed
mod Kept
mod Messages
mod Missing
mod Numbers
pub mod Opened
mod Pending
mod Given
mod Seated
mod Telling
