pub mod Answer
pub mod Calls
pub mod Going
pub mod Request
pub mod Searched
pub mod Text
