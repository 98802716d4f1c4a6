pub mod Calls
pub mod Parting
