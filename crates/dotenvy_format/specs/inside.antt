pub mod Slices
pub mod Walk
pub mod LineEnd
pub mod ParseStatement
pub mod ReadValue
pub mod NextPiece
