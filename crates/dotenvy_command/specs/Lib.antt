pub mod Words
pub mod Laws
pub mod WorkedWords
pub mod Failures
pub mod Answers
pub mod Started
pub mod Ends
pub mod inside
