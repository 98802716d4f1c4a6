pub mod Counts
pub mod Ends
pub mod Graphs
pub mod LimitForms
pub mod Parts
pub mod Walks
pub mod Wholes
