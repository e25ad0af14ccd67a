pub mod LoadLaws
pub mod LoadsTwice
pub mod LoadRuns
