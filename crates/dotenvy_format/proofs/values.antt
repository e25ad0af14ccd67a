pub mod Readings
pub mod Values
pub mod ValuePlaces
pub mod NextPiece
pub mod BackslashRows
pub mod DollarRows
pub mod LongestFronts
pub mod TextReads
