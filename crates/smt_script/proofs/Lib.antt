pub mod Digits
pub mod Heads
pub mod Sequences
pub mod Shapes
pub mod Added
