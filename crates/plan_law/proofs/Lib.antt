pub mod Along
pub mod Course
pub mod Parts
pub mod Upright
