pub mod Combined
pub mod Handing
pub mod Keeping
pub mod Pairs
pub mod Sweeping
pub mod Tightening
