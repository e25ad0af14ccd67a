pub mod Reads
pub mod Telling
