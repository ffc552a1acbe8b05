pub mod Released
pub mod Places
