pub mod Tree
pub mod Ranges
pub mod Fresh
pub mod TreeBounds
pub mod Rewritten
pub mod Laws
pub mod Reached
pub mod Refused
