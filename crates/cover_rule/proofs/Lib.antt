pub mod Axes
mod Combinables
pub mod Cuts
pub mod Grouped
pub mod Helds
pub mod Knowns
mod Narrowers
pub mod Narrowings
pub mod Points
pub mod RunSteps
pub mod Sides
pub mod Squarings
pub mod Voids
