pub mod Block
pub mod Encloses
pub mod Laws
pub mod Polynomial
pub mod Positive
pub mod Range
pub mod Steps
