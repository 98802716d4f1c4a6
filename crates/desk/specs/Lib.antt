pub mod Calls
pub mod Draft
pub mod Memory
pub mod Sight
pub mod Texts
