mod CharacterBytes
mod CleanWatches
mod CommentWatches
mod CommentWords
pub mod FaultKinds
mod LineWalks
pub mod MarkKinds
mod PlacedWatches
mod Runs
mod TextWatches
mod Watches
