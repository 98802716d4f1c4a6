pub mod Covers
pub mod Joined
pub mod Laws
