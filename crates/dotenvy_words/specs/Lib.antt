pub mod Rules
pub mod Found
pub mod Asked
pub mod Refused
pub mod Reading
