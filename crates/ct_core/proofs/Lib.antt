pub mod Formed
pub mod Arriving
pub mod Waiting
pub mod Everyone
pub mod Few
pub mod Leading
pub mod Plans
