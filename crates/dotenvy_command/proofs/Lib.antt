pub mod WordsOnce
pub mod WorkedWords
pub mod WordKinds
pub mod WordGroups
pub mod CommandNames
pub mod RunEnds
