pub mod Added
pub mod Absent
pub mod InOrder
