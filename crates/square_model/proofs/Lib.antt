pub mod Enclosing
pub mod Numbers
pub mod Points
pub mod Ranging
mod Rows
pub mod Signs
pub mod Sound
pub mod Squaring
