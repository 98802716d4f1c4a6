pub mod Numbers
pub mod ProgramLemmas
pub mod Ranges
pub mod Rows
pub mod Shares
