pub mod Following
pub mod CueLaws
pub mod Growing
pub mod GrowingLaws
