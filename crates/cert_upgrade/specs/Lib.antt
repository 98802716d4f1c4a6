pub mod Breaks
pub mod Upgraded
