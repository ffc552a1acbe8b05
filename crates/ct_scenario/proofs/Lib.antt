pub mod Adding
pub mod Free
pub mod Written
