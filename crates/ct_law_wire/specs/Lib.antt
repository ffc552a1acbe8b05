pub mod Alone
pub mod Grammar
pub mod InPieces
