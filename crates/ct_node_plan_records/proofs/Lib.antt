pub mod Updates
pub mod Left
pub mod Records
pub mod Taking
pub mod Keys
pub mod Walking
