pub mod Reached
pub mod Apart
pub mod Renewed
pub mod Pushed
pub mod Sweeps
pub mod Narrowing
