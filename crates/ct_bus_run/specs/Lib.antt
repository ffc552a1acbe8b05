pub mod Ends
pub mod Generated
pub mod Numbers
pub mod Text
