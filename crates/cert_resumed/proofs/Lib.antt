pub mod Fitting
pub mod Grafts
pub mod Grows
pub mod Known
pub mod Leaving
pub mod LemmaStates
pub mod Parses
pub mod Parted
mod Refined
pub mod Resumes
mod Rows
pub mod Sections
pub mod Spelled
pub mod SpelledNumbers
mod SpelledSquares
pub mod Stays
pub mod Within
pub mod WordsBack
