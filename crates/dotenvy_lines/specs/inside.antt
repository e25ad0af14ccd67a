pub mod Buffer
pub mod InputSteps
pub mod TakenLine
pub mod NextLine
pub mod JoinedLines
pub mod Splitter
