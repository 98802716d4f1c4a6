pub mod Ended
pub mod Gathering
pub mod Keeps
pub mod Taken
