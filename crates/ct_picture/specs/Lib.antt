pub mod Claims
pub mod Drawing
pub mod Reading
pub mod Rows
pub mod Running
pub mod Svg
