pub mod Smallest
pub mod TriedCnfBuild
