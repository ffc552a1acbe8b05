pub mod Both
pub mod Played
pub mod Stages
pub mod Columns
pub mod ColumnTurns
pub mod Laws
