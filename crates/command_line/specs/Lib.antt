pub mod Program
pub mod Seen
pub mod Words
