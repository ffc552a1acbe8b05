pub mod Going
pub mod Reaching
pub mod Joined
