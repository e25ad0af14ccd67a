pub mod ParsedLine
pub mod Reading
pub mod ItemStep
pub mod FirstPass
pub mod LoadStep
pub mod ValuePasses
