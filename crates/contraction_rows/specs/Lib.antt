pub mod TriedCnfBuild
