pub mod Course
pub mod Effect
pub mod Opening
pub mod Play
pub mod Session
