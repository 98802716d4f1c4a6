pub mod Attempts
pub mod Ended
pub mod Learned
pub mod OpenPatch
pub mod Worked
