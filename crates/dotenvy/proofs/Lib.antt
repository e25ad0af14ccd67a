pub mod Lemmas
pub mod WrittenPairs
