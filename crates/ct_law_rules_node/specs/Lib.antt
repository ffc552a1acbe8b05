pub mod Named
pub mod NodeLaws
