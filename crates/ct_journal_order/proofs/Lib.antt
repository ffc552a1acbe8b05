pub mod Answering
pub mod Bridging
pub mod Counting
pub mod Lettering
pub mod Meeting
pub mod Posting
pub mod Sameness
pub mod Waiting
