pub mod Limits
pub mod Lows
pub mod Made
pub mod Tries
