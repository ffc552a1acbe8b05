pub mod Answers
pub mod Laws
pub mod Named
pub mod Rules
pub mod Seen
pub mod Shown
pub mod Table
