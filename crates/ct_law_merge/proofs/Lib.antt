pub mod OneAnswer
pub mod AnyOrder
pub mod Counting
pub mod Rules
pub mod Folding
