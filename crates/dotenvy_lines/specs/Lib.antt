pub mod inside
pub mod Input
pub mod Lines
pub mod Reading
pub mod Numbered
