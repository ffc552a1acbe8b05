pub mod Promises
pub mod Generation
pub mod Born
pub mod Marked
pub mod Kept
pub mod Laws
pub mod Small
