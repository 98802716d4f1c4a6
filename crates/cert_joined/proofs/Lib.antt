pub mod Arities
pub mod Joining
pub mod Keeping
pub mod Members
pub mod Refining
pub mod Starts
pub mod Texts
