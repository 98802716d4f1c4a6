pub mod Related
pub mod Bounds
pub mod Exactly
