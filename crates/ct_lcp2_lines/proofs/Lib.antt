pub mod Complete
pub mod Ending
pub mod Feeding
pub mod Printing
pub mod Room
pub mod Given
pub mod Nodes
