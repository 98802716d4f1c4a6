pub mod Answers
pub mod Line
pub mod Views
pub mod Words
