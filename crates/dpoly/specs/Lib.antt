pub mod Join
pub mod Minimize
pub mod Plan
pub mod Resume
pub mod Search
pub mod Upgrade
