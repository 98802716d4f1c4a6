pub mod Aims
pub mod Found
pub mod Limits
