pub mod Declared
pub mod Exact
pub mod Laws
pub mod Meaning
pub mod Reading
pub mod Script
pub mod Sexp
pub mod Symbol
