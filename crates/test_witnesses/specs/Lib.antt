pub mod Pieces
pub mod Readings
pub mod Scripts
pub mod Turns
pub mod Writings
