pub mod Conjuncts
pub mod Roots
pub mod Truth
pub mod Versions
