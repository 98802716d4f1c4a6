pub mod Accepted
mod Begun
pub mod Carried
mod Checked
mod Commands
pub mod Long
pub mod Pairs
pub mod Parts
pub mod Phases
mod Rewritable
mod Rows
pub mod Shapes
mod Walks
pub mod WellSorted
