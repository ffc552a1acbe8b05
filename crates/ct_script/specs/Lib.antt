pub mod Cues
pub mod Scripts
pub mod Sound
pub mod Generated
