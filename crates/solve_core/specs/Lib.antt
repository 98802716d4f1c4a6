pub mod Reaches
pub mod Search
pub mod Workers
pub mod Askers
pub mod Members
pub mod Solved
