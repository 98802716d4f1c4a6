pub mod Headline
pub mod Least
