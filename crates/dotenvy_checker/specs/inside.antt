pub mod CheckedFiles
pub mod CheckedLines
pub mod ToldLines
pub mod WatchedReads
