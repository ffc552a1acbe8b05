pub mod Starts
pub mod RoundsTold
