pub mod Coming
pub mod WholeCluster
pub mod Below
pub mod Parts
pub mod WholeCalls
pub mod Placed
