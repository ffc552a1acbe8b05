pub mod Awaited
pub mod Tracked
pub mod TrackingCode
pub mod Vacuum
pub mod VacuumCode
pub mod Candidates
