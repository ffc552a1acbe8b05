pub mod Persisted
pub mod Updates
pub mod Steps
pub mod Commits
pub mod Code
