pub mod Leads
pub mod Records
pub mod Retried
pub mod Revoking
pub mod Acks
pub mod Begins
pub mod Follows
pub mod Planned
