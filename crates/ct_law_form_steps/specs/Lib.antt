pub mod RoundLaws
pub mod StepLaws
