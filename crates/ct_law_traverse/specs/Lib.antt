pub mod Snapshot
pub mod Told
pub mod Small
