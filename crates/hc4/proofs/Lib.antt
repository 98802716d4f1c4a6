pub mod Children
pub mod Leaves
pub mod Reaches
pub mod Pushes
pub mod Sweeping
pub mod Skipped
