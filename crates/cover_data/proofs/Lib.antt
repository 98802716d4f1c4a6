pub mod Children
pub mod Groups
pub mod Later
pub mod Pieces
pub mod Proved
pub mod Runs
pub mod Withins
