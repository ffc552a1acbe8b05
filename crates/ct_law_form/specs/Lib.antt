pub mod Form
pub mod Whole
pub mod Laws
