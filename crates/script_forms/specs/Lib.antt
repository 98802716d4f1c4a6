pub mod Atoms
pub mod Laws
pub mod ProblemOf
pub mod Terms
pub mod Unfolded
pub mod Walk
pub mod Work
