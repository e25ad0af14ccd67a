pub mod Tried
pub mod Changing
pub mod Noted
pub mod Open
pub mod Changed
pub mod Telling
pub mod VerbatimReading
