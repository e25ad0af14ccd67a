pub mod Statements
pub mod StatementPlaces
pub mod Outcomes
pub mod StatementParts
