pub mod PieceLists
pub mod ScriptRuns
pub mod Taken
pub mod WholeReadings
pub mod WrittenPieces
