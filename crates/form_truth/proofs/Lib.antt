pub mod Axes
mod CombinableAtoms
pub mod FormTruth
pub mod InYes
mod Ordered
pub mod Roots
