pub mod FoundValues
pub mod Refusals
mod TextNames
