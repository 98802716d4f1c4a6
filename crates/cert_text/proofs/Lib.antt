pub mod Appended
pub mod Counted
pub mod Forest
pub mod GroupWords
pub mod Items
pub mod Margins
pub mod Numbers
pub mod Proved
mod ReadLines
pub mod Ruled
pub mod Sessions
pub mod SessionTexts
pub mod Spelling
pub mod SquareWords
pub mod Searched
pub mod Leftovers
pub mod Wholes
pub mod Words
